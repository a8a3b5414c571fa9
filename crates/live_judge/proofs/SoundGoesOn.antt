-- A state with an accepted update more is sound.
use Rattle.std.proofs.Common.{◌≡◌, ℕ, ◌+◌, ◌≤◌, Bool, false, List, [], ◌∷◌, ◌++◌, drop, length, Option, Some, None, Result, Ok, Err, refl}
use Rattle.std.proofs.Common.{sym, ◌∙◌, ap, subst, suc, arith, ◌<◌, ltb, length-append, length-drop}
use Rattle.std.proofs.lemmas.List.{drop-map, map-append, length-map}
use Rattle.std.proofs.lemmas.List.Elements.{All-nil, All-cons, All-append, All-drop, All-head, All-tail, All-weaker}
use Rattle.std.proofs.{Math.Nat.{mul-le-mul_left, one-le-pow}, lemmas.Bool.ltb-false}
use Rattle.std.specs.Prelude.{All, if◌then◌else◌, int_lt, option_map, slice_get}
use Rattle.presentation.specs.{declared.fault.PresentationFault.PresentationFault, Presented.{Presented, looked_at}}
use Rattle.mpd_presentation.specs.PresentedLaws.{PresentedAreFew, PresentedAreFollowed}
use Rattle.followed.specs.Durations.{last_behind, durations}
use Rattle.live_meaning.specs.Updates.{Update, is_reset, now_of, unit_of, Refresh, Reset, Tick, mpd_of}
use Rattle.live_meaning.specs.{Segments.{Kept, Segment, listed_of, place_behind, segments_of}, Known.{Known, ids_of, known_with}}
use Rattle.live_meaning.specs.Histories.{Common, availability_start_of, common_with, force_by, numbering_of, least_length}
use Rattle.live_meaning.specs.States.{State, Track, kept_and_new, new_of, new_told, removed_from, state_with, track_after, tracks_after}
use Rattle.live_meaning.specs.Refusals.{ClockBack, Refusal, clock_told, ended_told, next_of, next_with, refusal_of, told_by, Window}
use Rattle.live_meaning.specs.{Refusals.{count_kept, counts_kept, ids_in, over_in_all, over_in_track, told_if}, Removal.is_available}
use Rattle.live_meaning.proofs.Histories.{IsAllowed, allowed, none_each, told_none, get_more, told-segments, mapped}
use Rattle.live_meaning.proofs.{Orders.{behind_have, listed_numbered}, Playlists.{few_known, resets_most}}
use Rattle.live_judge.specs.Sound.{IsSegmentOf, IsSound, IsSoundTrack}
use Rattle.live_judge.specs.{SoundGoesOn.{SoundStatesGoOn, IsKept, NumbersFit, KeptGoOn, NumbersGoOn, PeriodsStandOn}, Changed.IsPlaceBy}
use Rattle.live_judge.specs.Known.{StandsAt}
use Rattle.live_judge.proofs.Forced.{IsNew, forced, listed, order}
use Rattle.live_judge.proofs.{Reaching.{IsReached, lasts_of, reached_behind, reached_left, sound_reached}, Rewriting.later_ended}
use Rattle.live_judge.proofs.{Places.{new_stand, same_stand}, Walks.none_from_first}
use Rattle.presentation.proofs.Reached.{none_first}
use Rattle.mpd_presentation.proofs.Ending.{none_behind}
use Rattle.followed.proofs.KeptPlaces.{next_is_first}

-- ---- an accepted update

pub record IsTaken (s : State) (u : Update) (p : Presented) : Type 0 where
  pub allowed : IsAllowed s u p
  pub forward : int_lt (now_of u) s.common.instant ≡ false

taken : (s : State) (u : Update) (p : Presented) → refusal_of s u ≡ None → force_by s.common.terms s.common.force u ≡ Ok p → IsTaken s u p
unfolding refusal_of
taken s u p none made =
    let by : List Refusal = told_by s u (force_by s.common.terms s.common.force u) in
    let all = none_each [] (ended_told s.common) (clock_told s.common (now_of u)) by (none_from_first _ none) in
    record {
      allowed = allowed s u p none made;
      forward = told_none (int_lt (now_of u) s.common.instant) (ClockBack s.common.instant (now_of u)) all.2;
    }

at_next : (s : State) (u : Update) (after : State) (o : Option Refusal) (r : Result Presented PresentationFault)
    → next_with s u o r ≡ Ok after → (p : Presented) × (o ≡ None) × (r ≡ Ok p) × (state_with s u p ≡ after)
at_next s u after (Some refusal) r is = absurd (cc)
at_next s u after None (Err fault) is = absurd (cc)
at_next s u after None (Ok p) is = (p, refl, refl, cc)

-- what holds of each state that an accepted update leaves
pub with_next : (P : State → Type 0) (s : State) (u : Update) (after : State) → next_of s u ≡ Ok after
    → ((p : Presented) → IsTaken s u p → P (state_with s u p)) → P after
unfolding next_of
with_next P s u after is next =
    let at = at_next s u after (refusal_of s u) (force_by s.common.terms s.common.force u) is in
    subst P at.3 (next at.0 (taken s u at.0 at.1 at.2))

resets_rise : (b : Bool) (n : ℕ) → n ≤ (if b then n + 1 else n)
resets_rise b n = grind arith

-- ---- all tracks

all_after : (c : Common) (P Q : Track → Type 0) → ((t : ℕ) (track : Track) → P track → Q (track_after c t track))
    → (t : ℕ) (tracks : List Track) → All P tracks → All Q (tracks_after c t tracks)
all_after c P Q step t [] all = All-nil Q
all_after c P Q step t (track ∷ tracks) all =
    All-cons Q (track_after c t track) (tracks_after c (t + 1) tracks) (step t track (All-head P track tracks all))
    (all_after c P Q step (t + 1) tracks (All-tail P track tracks all))

length-tracks : (c : Common) (t : ℕ) (tracks : List Track) → length (tracks_after c t tracks) ≡ length tracks
length-tracks c t [] = refl
length-tracks c t (track ∷ tracks) = ap suc (length-tracks c (t + 1) tracks)

-- ---- a state with an update more

module _ (s : State) (u : Update) (p : Presented) (is : IsSound s) (new : IsNew (common_with s.common u p)) (taken : IsTaken s u p) where
  abbrev c : Common
  c = common_with s.common u p

  stays : (x : Segment) → IsSegmentOf s.common x → IsSegmentOf c x
  stays x own = record {
    starts =
        let (k, at, same) = mapped (λ (k : Known). k.start) (slice_get s.common.known x.value.place) x.value.period_start own.starts in
        ap (option_map (λ (k : Known). k.start)) (get_more s.common.known _ x.value.place k at) ∙ ap Some same;
    section = omega (arith, own.section, resets_rise (is_reset u) s.common.resets);
    listed = own.listed;
    ended = λ followed. later_ended (now_of u) s.common.instant
        (availability_start_of s.common.opened) x.value.period_start x.end taken.forward (own.ended taken.allowed.unended);
  }

  module _ (t : ℕ) (track : Track) (own : IsSoundTrack s.common track) where
    abbrev ks : List Segment
    ks = segments_of track.kept

    abbrev xs : List Segment
    xs = new_of c t track

    abbrev n : ℕ
    n = removed_from c (kept_and_new c t track)

    left : segments_of (track_after c t track).kept ≡ drop n (ks ++ xs)
    left = sym (drop-map (λ (k : Kept). k.segment) n (kept_and_new c t track))
        ∙ ap (λ (ys : List Segment). drop n ys)
        (map-append (λ (k : Kept). k.segment) track.kept (new_told c t track)
        ∙ ap (λ (ys : List Segment). ks ++ ys) (told-segments (unit_of c.terms) track.last xs))

    has : IsReached s.common.resets track.last track.place ks
    has = record { ordered = own.ordered; section = own.section; lasts = lasts_of track.last own.begun own.timed; up_to = own.behind }

    reached : IsReached c.resets (last_behind track.last xs) (place_behind track.place xs) (drop n (ks ++ xs))
    reached = reached_left c.resets (last_behind track.last xs) (place_behind track.place xs) n (ks ++ xs)
        (reached_behind s.common.resets c.resets track.last track.place ks (listed_of (numbering_of c) p t)
        (resets_rise (is_reset u) s.common.resets) has (listed_numbered (numbering_of c) p t) (order c new t))

    segments : All (IsSegmentOf c) (drop n (ks ++ xs))
    segments = All-drop (IsSegmentOf c) n (ks ++ xs)
        (All-append (IsSegmentOf c) ks xs (All-weaker (IsSegmentOf s.common) (IsSegmentOf c) stays ks own.segments)
        (behind_have (IsSegmentOf c) track.last track.place (listed_of (numbering_of c) p t) (listed c new t)))

    sound_after : IsSoundTrack c (track_after c t track)
    sound_after = sound_reached c (track_after c t track) (subst (All (IsSegmentOf c)) (sym left) segments)
        (subst (IsReached c.resets (last_behind track.last xs) (place_behind track.place xs)) (sym left) reached)

  sound : IsSound (state_with s u p)
  unfolding state_with
  sound = record {
    place = new.place;
    stands = new.stands;
    starts = new.starts;
    follows = new.follows;
    opened = is.opened ∙ sym (length-tracks c 0 s.tracks);
    alike = new.alike ∙ is.opened ∙ sym (length-tracks c 0 s.tracks);
    few = new.few;
    timed = new.timed;
    tracks = all_after c (IsSoundTrack s.common) (IsSoundTrack c) sound_after 0 s.tracks is.tracks;
  }

module _ (few : PresentedAreFew) (followed : PresentedAreFollowed) where
  pub sound_states_go_on : SoundStatesGoOn
  sound_states_go_on s u after is next = with_next IsSound s u after next
      (λ p taken. sound s u p is (forced few followed s u p is taken.allowed) taken)

-- ---- the places, the numbers and what is kept behind an accepted update

stands_by : (s : State) (u : Update) (former place : ℕ) (p : Presented) → StandsAt (ids_of s.common.known) (ids_in s.common.force) former
    → IsPlaceBy (mpd_of u) s.common former p place → IsAllowed s u p → StandsAt (ids_of (known_with s.common.known p)) (ids_in p) place
stands_by s (Refresh mpd now) former place p stands is allowed = new_stand s.common.known p place stands.once is.among
stands_by s (Reset mpd now) former place p stands is allowed = new_stand s.common.known p place stands.once is.among
stands_by s (Tick now) former place p stands is allowed =
    let force : looked_at now s.common.force ≡ p = let made = allowed.forced in cc in
    subst (λ (q : Presented). StandsAt (ids_of (known_with s.common.known q)) (ids_in q) place) force
    (subst (λ n. StandsAt (ids_of (known_with s.common.known (looked_at now s.common.force))) (ids_in s.common.force) n) (sym is)
    (same_stand s.common.known (looked_at now s.common.force) former stands))

pub periods_stand_on : PeriodsStandOn
unfolding state_with
periods_stand_on s u after former place stands is next =
    with_next (λ (a : State). IsPlaceBy (mpd_of u) s.common former a.common.force place
    → StandsAt (ids_of a.common.known) (ids_in a.common.force) place) s u after next
    (λ p taken is. stands_by s u former place p stands is taken.allowed) is

-- ---- numbers

module _ (few : PresentedAreFew) (followed : PresentedAreFollowed) where
  pub numbers_go_on : NumbersGoOn
  unfolding state_with
  numbers_go_on s u after is numbered next =
      with_next (λ (a : State). NumbersFit a.common) s u after next (λ p taken. record {
        resets = omega (arith, resets_most (is_reset u) s.common.resets, numbered.resets);
        periods = omega (arith, few_known s.common.known p, (forced few followed s u p is taken.allowed).few, numbered.periods);
      })

-- ---- what is kept

module _ (c : Common) (target : 0 < c.target) where
  kept_after : (t : ℕ) (track : Track) → 0 < length track.kept → count_kept c (kept_and_new c t track) ≤ 20000
      → IsKept (track_after c t track)
  kept_after t track some few =
      let ts : List Kept = kept_and_new c t track in
      let next = next_is_first 0 (least_length c) (option_map is_available c.force.following) (durations ts) (segments_of ts) in
      let enough : 0 < least_length c = omega
      (arith, mul-le-mul_left (unit_of c.terms) target, one-le-pow c.terms.digits 10 (omega arith)) in
      let all : length (segments_of ts) ≡ length ts = length-map ts (λ (k : Kept). k.segment) in
      let there : removed_from c ts < length (segments_of ts) =
      next.some enough (length-map ts (λ (k : Kept). k.duration) ∙ sym all)
      (omega (arith, some, all, length-append track.kept (new_told c t track))) in
      record {
        some = omega (arith, there, all, length-drop (removed_from c ts) ts);
        few = omega (arith, few, length-drop (removed_from c ts) ts);
      }

  all_kept : (t : ℕ) (tracks : List Track) → over_in_track t (counts_kept c t tracks) ≡ [] → All IsKept tracks
      → All IsKept (tracks_after c t tracks)
  all_kept t [] none all = All-nil IsKept
  all_kept t (track ∷ tracks) none all =
      let n : ℕ = count_kept c (kept_and_new c t track) in
      let later : List _ = over_in_track (t + 1) (counts_kept c (t + 1) tracks) in
      let few : n ≤ 20000 = ltb-false _ _
      (told_none (ltb 20000 n) (Window t n) (none_first (told_if (ltb 20000 n) (Window t n)) later none)) in
      All-cons IsKept (track_after c t track) (tracks_after c (t + 1) tracks)
      (kept_after t track (All-head IsKept track tracks all).some few)
      (all_kept (t + 1) tracks (none_behind (told_if (ltb 20000 n) (Window t n)) later none) (All-tail IsKept track tracks all))

pub kept_go_on : KeptGoOn
unfolding state_with
kept_go_on s u after target all next =
    with_next (λ (a : State). All IsKept a.tracks) s u after next (λ p taken.
    let c : Common = common_with s.common u p in
    all_kept c target 0 s.tracks (none_first (over_in_track 0 (counts_kept c 0 s.tracks))
    (over_in_all 0 0 (counts_kept c 0 s.tracks)) taken.allowed.window) all)
