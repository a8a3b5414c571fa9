-- What an accepted update leaves, and what goes from the fronts of its tracks.
use Rattle.std.proofs.Common.{◌≡◌, ℕ, ◌+◌, ◌*◌, ◌^◌, ◌<◌, ◌≤◌, length, sym, ◌∙◌, ap, arith, ℤ, List, [], ◌∷◌, ◌++◌, map, sum, All, get_or}
use Rattle.std.{proofs.Common.{Option, Some, None, Ok, Result, refl, subst, length-append, length-drop}, proofs.Math.Nat.mul-le-mul_left}
use Rattle.std.{proofs.Math.Nat.one-le-pow, proofs.lemmas.List.length-map, proofs.lemmas.Result.err_from_is_err_and}
use Rattle.std.proofs.lemmas.List.Elements.{All-nil, All-cons, All-head, All-tail, All-append, All-drop, All-map}
use Rattle.std.specs.Prelude.{option_map, unwrap_or, IsErrAnd, MatchResult}
use Rattle.followed.{specs.Durations.durations, proofs.KeptPlaces.next_is_first}
use Rattle.live_meaning.{specs.Removal.is_available, specs.Segments.Kept, specs.States.{Track, State, kept_and_new, new_count, new_of}}
use Rattle.live_meaning.{specs.States.{new_told, removed_from, state_with, track_after, tracks_after}, specs.Updates.{Update, mpd_of}}
use Rattle.live_meaning.{specs.Updates.unit_of, specs.Known.{Known, ids_of}, specs.Histories.{Common, common_with}, specs.Refusals.ids_in}
use Rattle.live_meaning.{specs.Refusals.next_of, specs.Laws.{HistoriesGoOn, NumbersStaySmall, Shows}, proofs.Histories.length-told}
use Rattle.live_judge.{specs.declared.standing.Standing.Standing, specs.declared.track.LiveTrack.LiveTrack, specs.Shown.in_force}
use Rattle.live_judge.{specs.Shown.{track_shown, common_shown, kepts_of, state_shown, track_of}, specs.declared.coming.Coming.Coming}
use Rattle.live_judge.{specs.declared.fault.RefreshFault.RefreshFault, specs.declared.fault.RefreshFault.TheVariants.Memory}
use Rattle.live_judge.{specs.declared.track.Fact.Fact, specs.Coming.update_of, specs.Known.{StandsAt, known_shown}, specs.Sound.IsLive}
use Rattle.live_judge.{specs.Sound.IsPaired, specs.SoundGoesOn.{IsKept, KeptGoOn, NumbersGoOn, SoundStatesGoOn}}
use Rattle.live_judge.proofs.Keeping.{length-kepts}
use Rattle.live_session.specs.Growth.{IsTrimmable, trimmed, HaveRoom, grown, inside_of, track_grown, tracks_grown}
use Rattle.live_session.{specs.Kept.{AreSideBySide, without_front, with_all}, specs.declared.change.Plan.Plan}
use Rattle.live_session.{specs.declared.made.MadeTrack.MadeTrack, specs.declared.session.Appended.Appended, specs.Changes.{CanGoOn, IsLeft}}
use Rattle.live_session.{specs.Changes.{IsPlan, IsRefused, IsTaken, changed, force_of, newest_with}, specs.Making.all_kept}
use Rattle.live_session.{specs.Sessions.{IsReached, IsSession}, specs.Written.{AreDated, IsDated, IsWritten}, proofs.Growing.at_all}
use Rattle.live_session.{proofs.Growing.{of_shown, same_by}, proofs.Pushing.kept_with, proofs.Refusing.{gives_accepted, now_at}}
use Rattle.live_session.proofs.Refusing.{refused_wanting}
use Rattle.exact_time.{specs.Tick.time_of, specs.declared.tick.Tick.Tick}
use Rattle.hls_writer.specs.declared.items.MediaItem.{MediaItem}
use Rattle.presentation.specs.Presented.{Presented, looked_at}

pub fewer : (s : Standing) (track : LiveTrack) (count : ℕ) → 1 ≤ s.target → AreSideBySide track → IsTrimmable (track_shown track)
    → trimmed s (track_shown track) ≡ without_front count (track_shown track)
    → (count < length track.items.items) × (track.first + count < 2 ^ 64)
fewer s track count target paired can same =
    let kept = (track_shown track).kept in
    let as_many = length-map kept (λ (t : Kept). t.segment) in
    let here = length-kepts track.items.items track.facts.items paired in
    let next = next_is_first 0 (3 * s.target * 10 ^ s.digits) (option_map is_available (in_force s).following) (durations kept) _ in
    let stays = next.some (omega (arith, mul-le-mul_left (3 * s.target) (one-le-pow s.digits 10 (omega arith))))
    (length-map kept (λ (t : Kept). t.duration) ∙ sym as_many) (omega (arith, as_many, can.some)) in
    let first = ap (λ (t : Track). t.first) same in
    (omega (arith, stays, as_many, here, first), omega (arith, stays, as_many, here, first, can.fits))

-- ---- a session

paired_there : (t : LiveTrack) → AreSideBySide t → IsKept (track_shown t) → IsPaired t
paired_there t paired kept =
    let many = length-kepts t.items.items t.facts.items paired in
    record { paired = paired; some = omega (arith, many, kept.some); few = omega (arith, many, kept.few) }

pub live : {s : Standing} {tracks : List LiveTrack} → IsSession s tracks → IsLive s tracks
live {s} {tracks} is = record {
  sound = is.reached.sound;
  stands = is.stands;
  starts = is.starts;
  resets = is.reached.numbers.resets;
  periods = is.reached.numbers.periods;
  accepted = is.accepted;
  paired = λ k d within. paired_there (get_or tracks k d) (is.paired k d within)
      (of_shown IsKept track_shown tracks is.reached.kept k d within);
}

pub written : (tracks : List LiveTrack) (t : ℕ) (track : LiveTrack) → All AreSideBySide tracks → All AreDated (map track_shown tracks)
    → t < length tracks → track ≡ get_or tracks t track → IsWritten track
written tracks t track paired dated within is = record {
  paired = subst AreSideBySide (sym is) (paired t track within);
  dates = subst (λ (x : LiveTrack). AreDated (track_shown x)) (sym is) (of_shown AreDated track_shown tracks dated t track within);
}

-- tracks with the same inside, whatever room there is
abbrev Inside : Type 0
Inside = List MediaItem × List Fact × ℕ × Tick

pub same_shown : (new old : List LiveTrack) → map inside_of new ≡ map inside_of old → map track_shown new ≡ map track_shown old
same_shown new old same = same_by inside_of (λ (q : Inside). track_of q.2 (time_of q.3) (kepts_of q.0 q.1)) new old same

pub same_paired : (new old : List LiveTrack) → map inside_of new ≡ map inside_of old → All AreSideBySide old → All AreSideBySide new
same_paired new old same paired =
    let P = λ (q : Inside). length q.0 ≡ length q.1 in of_shown P inside_of new (rw same (All-map P inside_of old paired))

pub same_state : (s : Standing) (new old : List LiveTrack) → map inside_of new ≡ map inside_of old → state_shown s new ≡ state_shown s old
same_state s new old same = rw (same_shown new old same) refl

pub same_session : (s : Standing) (new old : List LiveTrack) → map inside_of new ≡ map inside_of old → IsSession s old → IsSession s new
same_session s new old same is = record {
  reached = subst IsReached (sym (same_state s new old same)) is.reached;
  paired = same_paired new old same is.paired;
  stands = is.stands;
  starts = is.starts;
  accepted = is.accepted;
  readable = is.readable;
  counted_first = is.counted_first;
  target = is.target;
}

-- a refusal leaves it
pub refused : {state old new : State} {u : Update} {e : RefreshFault} {before after : ℕ} (r : Result Appended RefreshFault)
    → IsErrAnd r (λ x. x ≡ e) → state ≡ old → new ≡ state → IsRefused state u e before after
    → MatchResult r (λ n. IsTaken old u n.0 new before after) (λ fault. IsLeft old u fault new before after)
refused {state} {old} {new} {u} {e} {before} {after} r told view same is =
    let p = err_from_is_err_and r told in
    rw (p.1, p.2) (record { same = same ∙ view; refusal = subst (λ s. IsRefused s u e before after) view is })

-- ---- what was kept of the tracks of a state before their fronts were removed

record IsWithin (track : Track) : Type 0 where
  some : 0 < length track.kept
  listed : track.first + length track.kept ≤ 200000000000

module _ (c : Common) where
  before_one : (t : ℕ) (track : Track) → IsWithin (track_after c t track)
      → IsTrimmable (track_grown c t track) × (length (new_of c t track) ≤ 200000000000)
  before_one t track is =
      let ks = kept_and_new c t track in
      let cut = length-drop (removed_from c ks) ks in
      let more = length-append track.kept (new_told c t track) in
      let told = length-told (unit_of c.terms) track.last (new_of c t track) in
      (record { some = omega (arith, cut, is.some); fits = omega (arith, cut, is.some) }, omega (arith, cut, more, told, is.listed))

  before_all : (t : ℕ) (tracks : List Track) → All IsWithin (tracks_after c t tracks) → All IsTrimmable (tracks_grown c t tracks)
  before_all t [] all = All-nil IsTrimmable
  before_all t (track ∷ tracks) all =
      All-cons IsTrimmable _ _ (before_one t track (All-head IsWithin _ _ all)).0 (before_all (t + 1) tracks (All-tail IsWithin _ _ all))

  few_new : (t : ℕ) (tracks : List Track) → All IsWithin (tracks_after c t tracks) → new_count c t tracks ≤ length tracks * 200000000000
  few_new t [] all = omega arith
  few_new t (track ∷ tracks) all =
      omega (arith, (before_one t track (All-head IsWithin _ _ all)).1, few_new (t + 1) tracks (All-tail IsWithin _ _ all))

  dated_after : (t : ℕ) (tracks : List Track) → All AreDated (tracks_grown c t tracks) → All AreDated (tracks_after c t tracks)
  dated_after t [] all = All-nil AreDated
  dated_after t (track ∷ tracks) all =
      All-cons AreDated _ _ (All-drop IsDated (removed_from c (kept_and_new c t track)) _ (All-head AreDated _ _ all))
      (dated_after (t + 1) tracks (All-tail AreDated _ _ all))

pub grown_dated : (tracks : List Track) (news : List (List Kept)) → All AreDated tracks → All (All IsDated) news
    → All AreDated (grown tracks news)
grown_dated tracks [] all new = all
grown_dated [] (n ∷ news) all new = All-nil AreDated
grown_dated (t ∷ tracks) (n ∷ news) all new =
    All-cons AreDated (with_all t n) _
    (rw (kept_with t n) (All-append IsDated t.kept n (All-head AreDated t _ all) (All-head (All IsDated) n _ new)))
    (grown_dated tracks news (All-tail AreDated t tracks all) (All-tail (All IsDated) n news new))

trimmed_all : (s : Standing) (t : ℕ) (tracks : List Track)
    → map (trimmed s) (tracks_grown (common_shown s) t tracks) ≡ tracks_after (common_shown s) t tracks
trimmed_all s t [] = refl
trimmed_all s t (track ∷ tracks) = ap (λ (xs : List Track). track_after (common_shown s) t track ∷ xs) (trimmed_all s (t + 1) tracks)

newest_force : (newest former : Option Presented) (opened : Presented)
    → unwrap_or (newest_with newest former) opened ≡ unwrap_or newest (unwrap_or former opened)
newest_force None former opened = refl
newest_force (Some p) former opened = refl

-- ---- what is planned

pub of_slice : {s : Standing} {slice tracks : List LiveTrack} {coming : Coming} {now : ℤ} {force : Presented} {plan : Plan}
    {before after : ℕ} → slice ≡ tracks → IsPlan s slice coming now force plan before after
    → IsPlan s tracks coming now force plan before after
of_slice same is = rw (← same) is

module _ {s : Standing} {tracks : List LiveTrack} {coming : Coming} {now : ℤ} {force : Presented} {plan : Plan} {before after : ℕ}
    (is : IsPlan s tracks coming now force plan before after) (session : IsSession s tracks) where
  abbrev u : Update
  u = update_of coming now

  abbrev p : Presented
  p = looked_at now force

  abbrev state : State
  state = state_shown s tracks

  abbrev c : Common
  c = common_with (common_shown s) u p

  abbrev news : List (List Kept)
  news = all_kept plan.made.items

  abbrev then : State
  then = record { common = c; tracks = tracks_after c 0 state.tracks }

  pub wanting : (mpd_of u ≡ None → new_count c 0 state.tracks ≡ 0 → ⊥) → IsRefused state u Memory before after
  wanting never =
      refused_wanting state u before after (is.made.counted ∙ ap (λ n. before + n) (sym is.appended))
      (λ tick none. never tick (sym is.appended ∙ none))

  next : next_of state u ≡ Ok then
  unfolding state_with
  next = gives_accepted state u p is.forced is.accepted

  module _ (goes_on : HistoriesGoOn) (small : NumbersStaySmall) (keeps : KeptGoOn) (few_so_far : s.accepted < 10000000)
      (room : List LiveTrack) where
    shows : Shows session.reached.terms (session.reached.history ++ u ∷ []) then
    shows = goes_on session.reached.terms session.reached.history u state then session.reached.shows next

    kept : All IsKept (tracks_after c 0 state.tracks)
    kept = keeps state u then session.target session.reached.kept next

    within : All IsWithin (tracks_after c 0 state.tracks)
    within = λ k d inside. record {
      some = (kept k d inside).some;
      listed = at_all (λ (track : Track). track.first + length track.kept ≤ 200000000000) (tracks_after c 0 state.tracks)
          (λ t track at. omega (arith, (small _ _ then t track shows at).1.listed)) k d inside;
    }

    pub can_go_on : (standing : Standing) (made : List MadeTrack) → standing.target ≡ s.target
        → map inside_of room ≡ map inside_of tracks → made ≡ plan.made.items → HaveRoom room made
        → CanGoOn standing room plan.made.items
    can_go_on standing made target same made_is has = record {
      few = omega (arith, is.made.numbered, few_new c 0 state.tracks within, session.reached.sound.opened, session.reached.few);
      room = subst (HaveRoom room) made_is has;
      many = let shown = ap (λ xs. length xs) (same_shown room tracks same) in
          omega (arith, is.many, length-map tracks track_shown, length-map room track_shown);
      paired = same_paired room tracks same session.paired;
      target = omega (arith, target, session.target);
      can = rw (same_shown room tracks same, is.made.grown_is) (before_all c 0 state.tracks within);
    }

    module _ (newest : Option Presented) (forced : force ≡ force_of s newest) (standing : Standing) (known : List Known)
        (known_is : known ≡ s.known ++ map known_shown plan.periods.items)
        (standing_is : standing ≡ changed (record s { known = known }) newest plan.change) where
      abbrev new : Standing
      new = changed (record s { known = s.known ++ map known_shown plan.periods.items }) newest plan.change

      new_is : standing ≡ new
      new_is = rw (standing_is, known_is) refl

      common_is : common_shown new ≡ c
      common_is =
          grind (arith, newest_force newest s.newest s.opened, now_at coming now, is.instant, is.published, is.known, is.resets)

      module _ (final : List LiveTrack) (paired : All AreSideBySide final) (same : map inside_of room ≡ map inside_of tracks)
          (shown : map track_shown final ≡ map (trimmed standing) (grown (map track_shown room) news)) where
        tracks_are : map track_shown final ≡ tracks_after c 0 state.tracks
        tracks_are =
            rw (shown, new_is, same_shown room tracks same, is.made.grown_is, ← common_is) (trimmed_all new 0 state.tracks)

        state_is : then ≡ state_shown new final
        state_is = rw (tracks_are, common_is) refl

        pub taken : (count : ℕ) → count ≡ sum (map length news) → IsTaken state u count (state_shown standing final) before after
        taken count counted = rw new_is
            (record {
              next = next ∙ ap (λ (x : State). Ok x) state_is;
              appended = counted ∙ is.made.numbered ∙ sym is.appended;
              counted = is.made.counted ∙ ap (λ n. before + n) (sym is.appended);
            })

        pub session_after : SoundStatesGoOn → NumbersGoOn → IsSession standing final
        session_after sound numbers = rw new_is (record {
          reached = subst IsReached state_is (record {
            terms = session.reached.terms;
            history = session.reached.history ++ u ∷ [];
            shows = shows;
            sound = sound state u then session.reached.sound next;
            numbers = numbers state u then session.reached.sound session.reached.numbers next;
            few = session.reached.few;
            kept = kept;
            dated = dated_after c 0 state.tracks
                (subst (All AreDated) is.made.grown_is (grown_dated state.tracks news session.reached.dated is.made.dates));
          });
          paired = paired;
          stands = subst (λ (k : Common). StandsAt (ids_of k.known) (ids_in k.force) plan.change.place) (sym common_is) is.stands;
          starts = session.starts;
          accepted = omega (arith, few_so_far);
          readable = session.readable;
          counted_first = session.counted_first;
          target = session.target;
        })
