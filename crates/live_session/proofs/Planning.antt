-- What is planned of an update, and why it is refused.
use Rattle.std.proofs.Common.{◌≡◌, false, true, ℕ, ◌+◌, ◌-◌, ℤ, List, [], ◌++◌, map, length, None, Result, Ok, Err, refl, sym, ◌∙◌, ap}
use Rattle.std.proofs.{Common.{subst, inl, inr, arith}, lemmas.List.{length-map, nil_from_length}}
use Rattle.std.specs.{Prelude.MatchResult, List.range_with_len}
use Rattle.bridge_io.specs.Firsts.{first_of}
use Rattle.presentation.specs.Presented.{Presented, is_finished, looked_at}
use Rattle.presentation.proofs.Reached.{none_first}
use Rattle.mpd_presentation.proofs.Ending.{none_behind}
use Rattle.live_meaning.specs.{Updates.{Update, is_reset, mpd_of, now_of}, Known.{ids_of, known_at}, Histories.published_by, States.State}
use Rattle.live_meaning.specs.Refusals.{Ended, appended_by, clock_told, ended_told, ids_in, makes_segments, urls_told}
use Rattle.live_meaning.proofs.Histories.{told_none}
use Rattle.live_judge.specs.{declared.coming.Coming.Coming, declared.coming.Next.Next, declared.fault.RefreshFault.RefreshFault}
use Rattle.live_judge.specs.{declared.standing.Standing.Standing, declared.track.LiveTrack.LiveTrack, Known.{StandsAt, known_shown}}
use Rattle.live_judge.specs.{Coming.{IsJoined, IsNext, coming_of, p_of, timed_told, told_before, update_of}, Faults.Tells}
use Rattle.live_judge.specs.Shown.{common_shown, in_force, state_shown}
use Rattle.live_judge.proofs.Listing.{mpd_at}
use Rattle.live_session.specs.declared.change.Plan.{Plan}
use Rattle.live_session.specs.Changes.{IsPlan, IsPlanOf, IsPresented, IsRefused, IsUnplanned, first_new, new_in_all, shown_in}
use Rattle.live_session.proofs.{NewTracks.{resets_at, comes_same, known_are, seen as seen_all}, Addresses.urls_make}
use Rattle.live_session.proofs.Refusing.{appended_new, now_at, refused_early, refused_judged, refused_made, refused_there}
use Rattle.live_session.proofs.Refusing.{refused_wanting}

abbrev IsTimely : Standing → ℤ → Type 0
IsTimely s now = ended_told (common_shown s) ++ clock_told (common_shown s) now ≡ []

abbrev IsJudged : Standing → List LiveTrack → Coming → Presented → ℤ → Type 0
IsJudged s tracks coming force now = told_before (state_shown s tracks) (update_of coming now) (looked_at now force) ≡ []

pub unended : (s : Standing) (now : ℤ) → IsTimely s now → is_finished (in_force s) ≡ false
unended s now timely = told_none (is_finished (in_force s)) Ended
    (none_first (ended_told (common_shown s)) (clock_told (common_shown s) now) timely)

pub timely_there : (s : Standing) (coming : Coming) (now : ℤ) → IsTimely s now
    → ended_told (common_shown s) ++ clock_told (common_shown s) (now_of (update_of coming now)) ≡ []
timely_there s coming now timely = rw (now_at coming now) timely

pub refused_now : (s : Standing) (tracks : List LiveTrack) (coming : Coming) (now : ℤ) (e : RefreshFault) (steps : ℕ)
    → Tells e (ended_told (common_shown s) ++ clock_told (common_shown s) now)
    → IsRefused (state_shown s tracks) (update_of coming now) e steps steps
refused_now s tracks coming now e steps tells =
    refused_early _ _ _ _ e (rw (now_at coming now) tells) refl

pub judged_refused : (s : Standing) (tracks : List LiveTrack) (coming : Coming) (force : Presented) (now : ℤ) → IsTimely s now
    → IsPresented s coming now force → (e : RefreshFault) (before : ℕ)
    → Tells e (told_before (state_shown s tracks) (update_of coming now) (looked_at now force))
    → IsRefused (state_shown s tracks) (update_of coming now) e before before
judged_refused s tracks coming force now timely presented e before tells =
    refused_judged _ _ before before (timely_there s coming now timely) _ presented.forced e tells refl

-- ---- as it is judged

module _ (n : Next) where
  abbrev state : State
  state = state_shown n.standing.now n.tracks.now

  abbrev u : Update
  u = update_of n.coming n.now

  joined_own : IsJudged n.standing.now n.tracks.now n.coming n.force.now n.now → IsJoined n
  joined_own judged = none_first _ _ (none_first _ _ (none_behind _ (timed_told (is_reset u) (coming_of n) (shown_in n)) judged))

  module _ (is : IsNext n) (timely : IsTimely n.standing.now n.now) (presented : IsPresented n.standing.now n.coming n.now n.force.now)
      (judged : IsJudged n.standing.now n.tracks.now n.coming n.force.now n.now) (before after : ℕ) where
    none : ended_told state.common ++ clock_told state.common (now_of u) ≡ []
    none = timely_there n.standing.now n.coming n.now timely

    makes : makes_segments (first_of (urls_told (coming_of n) (p_of n) 0 (shown_in n))) ≡ true
    makes = urls_make (coming_of n) (p_of n) 0 (shown_in n)

    appended : appended_by state u ≡ new_in_all n
    appended = appended_new state u before after none (p_of n) presented.forced judged makes

    -- an instant alone brings no Period
    seen_at : mpd_of u ≡ None → first_new n ≡ length (n.force.now).sections
    seen_at tick = seen_all n is (comes_same n.standing.now n.coming n.force.now n.now n.now presented.comes tick)

    unplanned_refused : (e : RefreshFault) → IsUnplanned n e before after → IsRefused state u e before after
    unplanned_refused e (inl are) =
        refused_made state u before after none (p_of n) presented.forced judged makes e are.unmade.refused are.some are.unmade.counted
    unplanned_refused e (inr (memory, many, never)) =
        rw memory (refused_wanting state u before after (many ∙ ap (λ k. before + k) (sym appended)) (λ tick _. never (seen_at tick)))

    plan_is : (plan : Plan) → IsPlanOf n plan before after → IsPlan n.standing.now n.tracks.now n.coming n.now n.force.now plan before after
    plan_is plan has = record {
      forced = presented.forced;
      accepted = refused_there state u before after none (p_of n) presented.forced judged makes ∙ ap first_of has.made.made.urls;
      known = known_are n is (map known_shown plan.periods.items) has.periods;
      stands = subst (λ k. StandsAt (ids_of (coming_of n).known) (ids_in (p_of n)) k) (sym has.place) is.stands;
      published = has.published ∙ ap (published_by (n.standing.now).published) (sym (mpd_at n.coming n.now));
      instant = has.instant;
      resets = has.resets ∙ resets_at n.coming n.now (n.standing.now).resets;
      made = has.made.made;
      many = has.made.many;
      appended = appended;
      unmade = has.made.none;
      seen = λ tick. let left : length (n.force.now).sections - first_new n ≡ 0 = omega (arith, seen_at tick) in
          nil_from_length _ (sym (length-map plan.periods.items known_shown)
          ∙ ap (λ ks. length ks) (has.periods ∙ ap (λ k. map (known_at n.force.now) (range_with_len (first_new n) k)) left));
    }

    planned_own : (r : Result Plan RefreshFault)
        → MatchResult r (λ plan. IsPlanOf n plan before after) (λ e. IsUnplanned n e before after)
        → MatchResult r (λ plan. IsPlan n.standing.now n.tracks.now n.coming n.now n.force.now plan before after)
        (λ e. IsRefused state u e before after)
    planned_own (Ok plan) has = plan_is plan has
    planned_own (Err e) has = unplanned_refused e has

-- ---- the same of the arguments

module _ (n : Next) (s : Standing) (tracks : List LiveTrack) (coming : Coming) (force : Presented) (now : ℤ) (of_s : n.standing.now ≡ s)
    (of_tracks : n.tracks.now ≡ tracks) (of_coming : n.coming ≡ coming) (of_force : n.force.now ≡ force) (of_now : n.now ≡ now) where
  move : (F : Standing → List LiveTrack → Coming → Presented → ℤ → Type 0) → F n.standing.now n.tracks.now n.coming n.force.now n.now
      → F s tracks coming force now
  move F has = rw (← of_s, ← of_tracks, ← of_coming, ← of_force, ← of_now) has

  pub joined : IsJudged s tracks coming force now → IsJoined n
  joined = move (λ s ts t f i. IsJudged s ts t f i → IsJoined n) (joined_own n)

  pub planned : IsNext n → IsTimely s now → IsPresented s coming now force → IsJudged s tracks coming force now
      → (before after : ℕ) (r : Result Plan RefreshFault)
      → MatchResult r (λ plan. IsPlanOf n plan before after) (λ e. IsUnplanned n e before after)
      → MatchResult r (λ plan. IsPlan s tracks coming now force plan before after)
      (λ e. IsRefused (state_shown s tracks) (update_of coming now) e before after)
  planned is timely presented judged before after r has =
      move (λ s ts t f i. IsTimely s i → IsPresented s t i f → IsJudged s ts t f i
      → MatchResult r (λ plan. IsPlan s ts t i f plan before after) (λ e. IsRefused (state_shown s ts) (update_of t i) e before after))
      (λ timely presented judged. planned_own n is timely presented judged before after r has) timely presented judged
