-- What frames leave is what the accepted updates among them leave.
use Rattle.bridge_jobs.specs.declared.frame.Frame.TheVariants as frame
use Rattle.live_meaning.specs.Refusals as rules
use Rattle.std.proofs.Common.{◌≡◌, ◌≤◌, ℕ, ℤ, suc, ◌+◌, List, [], ◌∷◌, ◌++◌, length, map, Option, None, Some, option_map, Result, Ok, Err}
use Rattle.std.proofs.{Common.{refl, sym, ap, ◌∙◌, subst, arith}, lemmas.List.length-map, lemmas.List.FromFn.length-range_with_len}
use Rattle.std.specs.{Prelude.option_to_list, List.fold, Result.{result_ok, result_err}}
use Rattle.bridge_io.proofs.AndThen.{steps_of}
use Rattle.bridge_io.specs.{Answer.{and_then, told_as}, Firsts.first_of}
use Rattle.presentation.specs.{declared.fault.PresentationFault.PresentationFault, Counting.tracks_of, Presented.Presented}
use Rattle.mpd_presentation.specs.{PresentedLaws.PresentedAreFew, Told.presented_of}
use Rattle.presentation.proofs.Filling.{ok_under}
use Rattle.bridge_jobs.specs.declared.frame.Frame.{Frame}
use Rattle.live_meaning.specs.Updates.{Refresh, Reset, Terms, Update, Values, now_of, unit_of}
use Rattle.live_meaning.specs.States.{State, Track, state_of, state_with, track_of, tracks_after}
use Rattle.live_meaning.specs.Histories.{Common, begun_common, begun_past, common_with, force_by}
use Rattle.live_meaning.specs.Laws.{HistoriesBegin, HistoriesGoOn, HistoriesRefuse, Shows, with_accepted}
use Rattle.live_judge.proofs.SoundGoesOn.{with_next}
use Rattle.laws_of_reloads.proofs.FirstFiles.{begun_is}
use Rattle.bridge_report.specs.{Following.unless_refused, Refusals.refusal_text, declared.refusal.Refusal.Refusal}
use Rattle.bridge_steps.specs.Manifests.{values_of}
use Rattle.bridge_live.specs.LiveMpds.{first_state, frame_state, next_state, told_of, update_of}
use Rattle.bridge_live.proofs.LiveStates.{first_is_one}

-- ---- what is refused has a refusal

abbrev IsRefused : Option rules.Refusal → Type 0
IsRefused o = (r : rules.Refusal) × (o ≡ Some r)

some_behind : (xs : List rules.Refusal) (y : rules.Refusal) → first_of (xs ++ y ∷ []) ≡ None → ⊥
some_behind [] y none = absurd (cc)
some_behind (x ∷ xs) y none = absurd (cc)

module _ (s : State) (u : Update) where
  next_by : (o : Option rules.Refusal) (force : Result Presented PresentationFault) (r : rules.Refusal) → rules.refusal_of s u ≡ o
      → force_by s.common.terms s.common.force u ≡ force
      → rules.next_with s u o force ≡ Err r → IsRefused o
  unfolding rules.refusal_of
  next_by (Some q) force r told made is = (q, refl)
  next_by None (Ok p) r told made is = absurd (cc)
  next_by None (Err fault) r told made is =
      let front : List rules.Refusal = rules.ended_told s.common ++ rules.clock_told s.common (now_of u) in
      absurd (some_behind front (rules.Presentation fault) (ap (λ f. first_of (front ++ rules.told_by s u f)) (sym made) ∙ told))

  refused_next : (r : rules.Refusal) → rules.next_of s u ≡ Err r → IsRefused (rules.refusal_of s u)
  unfolding rules.next_of
  refused_next r is = next_by (rules.refusal_of s u) (force_by s.common.terms s.common.force u) r refl refl is

module _ (terms : Terms) (mpd : Values) (now : ℤ) where
  first_by : (o : Option rules.Refusal) (first : Result Presented PresentationFault) (r : rules.Refusal)
      → rules.first_refusal_of terms mpd now ≡ o → presented_of mpd terms.url (Some now) ≡ first
      → rules.begun_by terms mpd now o first ≡ Err r → IsRefused o
  unfolding rules.first_refusal_of
  first_by (Some q) first r told made is = (q, refl)
  first_by None (Ok p) r told made is = absurd (cc)
  first_by None (Err fault) r told made is =
      let none : first_of (rules.Presentation fault ∷ []) ≡ None =
      ap (λ f. first_of (rules.first_told_by mpd f)) (sym made) ∙ told in
      absurd (cc)

  refused_first : (r : rules.Refusal) → rules.begun_of terms mpd now ≡ Err r → IsRefused (rules.first_refusal_of terms mpd now)
  unfolding rules.begun_of
  refused_first r is = first_by (rules.first_refusal_of terms mpd now) (presented_of mpd terms.url (Some now)) r refl refl is

-- ---- a frame behind a history

-- what a frame leaves, as it is judged
abbrev pub left_by : Option State → Result State Refusal → Option State
left_by s judged = unless_refused (option_map refusal_text (result_err judged)) (result_ok judged) s

abbrev pub accepting : Terms → List Update → Update → List Update
accepting terms history u = with_accepted terms history u (rules.update_refusal terms history u)

-- the history behind a frame, which may be an update or none
abbrev pub history_with : Terms → List Update → Result Update Refusal → List Update
history_with terms history u = fold (accepting terms) history (option_to_list (result_ok u))

-- a state is what a history of accepted updates leaves; none is what none leaves
abbrev pub IsLeft : Terms → List Update → Option State → Type 0
IsLeft terms history None = history ≡ []
IsLeft terms history (Some s) = Shows terms history s

module _ (begins : HistoriesBegin) (goes_on : HistoriesGoOn) (refuse : HistoriesRefuse) (terms : Terms) where
  stays_so : (history : List Update) (u : Update) (s : Option State) → IsRefused (rules.update_refusal terms history u)
      → IsLeft terms history s → IsLeft terms (accepting terms history u) s
  stays_so history u s refused is =
      subst (λ (h : List Update). IsLeft terms h s) (sym (ap (with_accepted terms history u) refused.1)) is

  goes_so : (history : List Update) (u : Update) (s : State) → Shows terms (history ++ u ∷ []) s → Shows terms (accepting terms history u) s
  goes_so history u s shows =
      subst (λ (h : List Update). Shows terms h s) (sym (ap (with_accepted terms history u) (shows.accepted history u [] refl))) shows

  -- behind a state
  next_judged : (history : List Update) (s : State) (u : Update) (next : Result State rules.Refusal) → Shows terms history s
      → rules.next_of s u ≡ next → IsLeft terms (accepting terms history u) (left_by (Some s) (told_as told_of next))
  next_judged history s u (Ok after) shows is = goes_so history u after (goes_on terms history u s after shows is)
  next_judged history s u (Err r) shows is =
      let refused = refused_next s u r is in
      stays_so history u (Some s) (refused.0, refuse terms history u s shows ∙ refused.1) shows

  next_left : (history : List Update) (s : State) (u : Result Update Refusal) → Shows terms history s
      → IsLeft terms (history_with terms history u) (left_by (Some s) (and_then u (λ u. told_as told_of (rules.next_of s u))))
  next_left history s (Ok u) shows = next_judged history s u (rules.next_of s u) shows refl
  next_left history s (Err r) shows = shows

  -- at first
  first_judged : (mpd : Values) (now : ℤ) (begun : Result State rules.Refusal) → rules.begun_of terms mpd now ≡ begun
      → IsLeft terms (accepting terms [] (Refresh mpd now)) (left_by None (told_as told_of begun))
  unfolding state_of
  first_judged mpd now (Ok s) is = goes_so [] (Refresh mpd now) s (begins terms mpd now s is)
  first_judged mpd now (Err r) is = stays_so [] (Refresh mpd now) None (refused_first terms mpd now r is) refl

  first_mpd : (now : ℤ) (values : Result Values Refusal)
      → IsLeft terms (history_with terms [] (and_then values (λ mpd. Ok (Refresh mpd now))))
      (left_by None (and_then values (λ mpd. told_as told_of (rules.begun_of terms mpd now))))
  first_mpd now (Ok mpd) = first_judged mpd now (rules.begun_of terms mpd now) refl
  first_mpd now (Err r) = refl

  first_reset : (now : ℤ) (values : Result Values Refusal) → history_with terms [] (and_then values (λ mpd. Ok (Reset mpd now))) ≡ []
  unfolding state_of
  first_reset now (Ok mpd) = refl
  first_reset now (Err r) = refl

  first_left : (x : Frame) → IsLeft terms (history_with terms [] (update_of x)) (left_by None (first_state terms x))
  unfolding first_state update_of state_of
  first_left (frame.Mpd now body) = first_mpd now (values_of body)
  first_left (frame.Reset now body) = first_reset now (values_of body)
  first_left (frame.Tick now) = refl

  pub frame_left : (history : List Update) (s : Option State) (x : Frame) → IsLeft terms history s
      → IsLeft terms (history_with terms history (update_of x)) (left_by s (frame_state terms s x))
  unfolding next_state
  frame_left history None x is =
      subst (λ (h : List Update). IsLeft terms (history_with terms h (update_of x)) (left_by None (first_state terms x)))
      (sym is) (first_left x)
  frame_left history (Some s) x is = next_left history s (update_of x) is

-- ---- the tracks of a state, and its first MPD

abbrev pub HasFewTracks : State → Type 0
HasFewTracks s = length s.tracks ≤ 200

-- the first accepted frame
pub record Opens (after : State) : Type 0 where
  pub few : HasFewTracks after
  pub one : after.common.accepted ≡ 1

as_many_begun : (c : Common) (p : Presented) (unit : ℕ) → length (map (track_of unit) (map (begun_past c) (tracks_of p))) ≡ length p.tracks
as_many_begun c p unit =
    length-map (map (begun_past c) (tracks_of p)) (track_of unit) ∙ length-map (tracks_of p) (begun_past c)
    ∙ length-range_with_len 0 (length p.tracks)

pub first_opens : PresentedAreFew → (terms : Terms) (x : Frame) (after : State) → first_state terms x ≡ Ok after → Opens after
unfolding first_state
first_opens few terms (frame.Mpd now body) after is =
    let read = steps_of (values_of body) (λ mpd. told_as told_of (rules.begun_of terms mpd now)) after is in
    let begins = ok_under told_of (rules.begun_of terms read.value now) after read.then in
    let begun = begun_is terms read.value now after begins in
    let tracks = (few read.value terms.url (Some now) begun.p begun.first.made).1 in
    let many = as_many_begun (begun_common terms read.value now begun.p) begun.p (unit_of terms) in
    record {
      few = rw (begun.state) (omega (arith, many, tracks));
      one = first_is_one terms read.value now after begins;
    }
first_opens few terms (frame.Reset now body) after is = absurd (cc)
first_opens few terms (frame.Tick now) after is = absurd (cc)

-- a later one
pub record GoesOn (s after : State) : Type 0 where
  pub tracks : length after.tracks ≡ length s.tracks
  pub opened : after.common.opened ≡ s.common.opened

as_many : (c : Common) (t : ℕ) (tracks : List Track) → length (tracks_after c t tracks) ≡ length tracks
as_many c t [] = refl
as_many c t (track ∷ tracks) = ap suc (as_many c (t + 1) tracks)

pub state_goes_on : (s : State) (u : Update) (after : State) → rules.next_of s u ≡ Ok after → GoesOn s after
unfolding state_with
state_goes_on s u after is =
    with_next (GoesOn s) s u after is (λ p taken. record { tracks = as_many (common_with s.common u p) 0 s.tracks; opened = refl })

-- an accepted frame behind others is an accepted update
pub record IsNext (s : State) (x : Frame) (after : State) : Type 0 where
  pub update : Update
  pub is : update_of x ≡ Ok update
  pub next : rules.next_of s update ≡ Ok after

pub next_is : (s : State) (x : Frame) (after : State) → next_state s x ≡ Ok after → IsNext s x after
unfolding next_state
next_is s x after is =
    let step = steps_of (update_of x) (λ u. told_as told_of (rules.next_of s u)) after is in
    record { update = step.value; is = step.first; next = ok_under told_of (rules.next_of s step.value) after step.then }
