-- The printed durations of segments that are equally long.
use Rattle.std.proofs.Common.{◌≡◌, ℕ, zero, suc, ◌+◌, ◌-◌, ◌*◌, ◌<◌, List, [], ◌∷◌, ◌++◌, length, map, pos, ◌+ℤ◌, ◌<ℤ◌, ◌^◌, Some, refl}
use Rattle.std.proofs.{Common.{sym, ◌∙◌, ap, subst, inl, inr, ◌⊎◌, arith}, lemmas.Int.ints, lemmas.List.{length-map, map-append}}
use Rattle.std.specs.Prelude.{slice_get}
use Rattle.exact_time.specs.{Time.{IsAtMost, Time, difference, seconds}, Tick.time_of, Floor.floor_in, Equal.{ends_after, equal_durations}}
use Rattle.exact_time.specs.{Equal.ticks_after, Rounding.{AreNear, IsRising, Rounding, differences, rounding_behind, total}}
use Rattle.exact_time.proofs.{EqualSteps.IsAtMost-ticks_after, TimeOrder.IsAtMost-trans}
use Rattle.timeline.specs.{Expansions.Timing, SpanRuns.{IsNextRun as PassesRun, timings_of}, declared.span.SpanRun.SpanRun}
use Rattle.presentation.specs.{Kept.{durations_behind, printed_left}, Printing.{PrintedTiming, ends_of, with_durations}}
use Rattle.presentation.proofs.NextRun.{others_near, paced_run, past_all, past_first, printed_run}
use Rattle.live_judge.specs.{Seconds.{IsSecond, IsSecondNear, second_end}, Times.IsPacedBy}

-- ---- the second one

module _ (old : Rounding) (first time end : Time) (unit step : ℕ) (begun : old ≡ rounding_behind first unit time)
    (same : end ≡ ticks_after time step) where
  pub second_follows : IsAtMost old.former end
  second_follows = rw (begun, same) (IsAtMost-ticks_after step time)

  pub second_close : IsAtMost (difference (ticks_after time step) time) (seconds 2000000)
      → IsAtMost (difference end old.former) (seconds 2000000)
  second_close near = rw (begun, same) near

  pub second_is : (new : Rounding) (printed : ℕ) → total old + printed ≡ total new → new ≡ record old { former = end }
      → total (rounding_behind first unit time) + printed ≡ total (rounding_behind first unit (ticks_after time step))
  second_is new printed sum kept = rw (kept, same, begun) at sum

by_count : (spans : SpanRun) (others : ℕ) → 0 < others
    → AreNear (time_of spans.first.end) (ends_after (time_of spans.first.end) spans.step others)
    → ((spans.first.end.n +ℤ pos (others * spans.step)) <ℤ pos (2 ^ 64)) → IsSecondNear spans
unfolding ends_after
by_count spans zero some near room = absurd (omega arith)
by_count spans (suc others) some near room = record { near = near.0; room = omega (arith, ints, room) }

-- ---- all of them

durations_with : (xs : List Timing) (ds : List ℕ) → length xs ≡ length ds → map (λ (x : PrintedTiming). x.duration) (with_durations xs ds)
    ≡ ds
durations_with [] [] same = refl
durations_with [] (d ∷ ds) same = absurd (omega (arith, same))
durations_with (x ∷ xs) [] same = absurd (omega (arith, same))
durations_with (x ∷ xs) (d ∷ ds) same = ap (λ (es : List ℕ). d ∷ es) (durations_with xs ds (omega (arith, same)))

length-differences : (n : ℕ) (ms : List ℕ) → length (differences n ms) ≡ length ms
length-differences n [] = refl
length-differences n (m ∷ ms) = ap suc (length-differences m ms)

durations_left : (u : ℕ) (first : Time) (n : ℕ) (xs : List Timing)
    → map (λ (x : PrintedTiming). x.duration) (with_durations xs (differences n (map (λ x. floor_in u (difference x.end first)) xs)))
    ≡ differences n (map (λ x. floor_in u (difference x.end first)) xs)
durations_left u first n xs = durations_with xs _ (sym (length-differences n (map (λ x. floor_in u (difference x.end first)) xs)
    ∙ length-map xs (λ x. floor_in u (difference x.end first))))

module _ (r : Rounding) (old new : List Timing) (run : SpanRun) (is : PassesRun old run new) where
  equal : List ℕ
  equal = equal_durations (past_first r old new run is) run.step (run.count - 1)

  as_long : (first : ℕ) → length (timings_of run) ≡ length (first ∷ equal)
  unfolding equal
  as_long first =
      simp (length-differences, length-map) (simp length-map at (ap (λ (ts : List Time). length ts) is.ends))

  pub run_split : (first : ℕ) → total r + first ≡ total (past_first r old new run is)
      → durations_behind r old ≡ (first ∷ equal_durations (past_first r old new run is) run.step (run.count - 1))
      ++ durations_behind (past_all r old new run is) new
  unfolding equal
  run_split first called =
      let dur : PrintedTiming → ℕ = λ x. x.duration in
      sym (durations_left r.unit r.first (total r) old)
      ∙ ap (map dur) (printed_run r old new run is first called)
      ∙ map-append dur (with_durations (timings_of run) (first ∷ equal)) (printed_left new (past_all r old new run is))
      ∙ ap (λ (ds : List ℕ). ds ++ map dur (printed_left new (past_all r old new run is)))
      (durations_with (timings_of run) (first ∷ equal) (as_long first))
      ∙ ap (λ (ds : List ℕ). (first ∷ equal) ++ ds) (durations_left r.unit r.first (total (past_all r old new run is)) new)

  by_others : (others : ℕ) → run.count - 1 ≡ others → (second : ℕ) → (0 < others → IsSecond r.first r.unit run second)
      → (equal_durations (past_first r old new run is) run.step others ≡ [])
      ⊎ (slice_get (equal_durations (past_first r old new run is) run.step others) 0 ≡ Some second)
  unfolding ends_after
  by_others zero same second told = inl refl
  by_others (suc others) same second told =
      let sum : total (past_first r old new run is) + second ≡ floor_in r.unit (difference (second_end run) r.first) = told (omega arith) in
      let one : floor_in r.unit (difference (second_end run) r.first) - total (past_first r old new run is) ≡ second = omega (arith, sum) in
      inr (ap Some one)

-- ---- a run that is passed

module _ (first : Time) (unit : ℕ) (r : Rounding) (old new : List Timing) (run : SpanRun) (is : PassesRun old run new)
    (paced : IsPacedBy old r first unit) where
  ends_rise : IsAtMost r.former (time_of run.first.end)
  ends_rise =
      let ends : ends_of old ≡ time_of run.first.end ∷ (ends_after (time_of run.first.end) run.step (run.count - 1) ++ ends_of new) =
      ap ends_of is.next ∙ map-append (λ (x : Timing). x.end) (timings_of run) new ∙ ap (λ (ts : List Time). ts ++ ends_of new) is.ends in
      let rising : IsRising r.former (time_of run.first.end ∷ (ends_after (time_of run.first.end) run.step (run.count - 1)
      ++ ends_of new)) =
      subst (IsRising r.former) ends paced.paced.rising in
      rising.1

  pub begun_before : IsAtMost first (time_of run.first.end)
  begun_before = subst (λ (t : Time). IsAtMost t (time_of run.first.end)) paced.first_is
      (IsAtMost-trans r.first r.former (time_of run.first.end) paced.former paced.begun ends_rise)

  pub second_fits : 1 < run.count → IsSecondNear run
  second_fits more = by_count run (run.count - 1) (omega (arith, more)) (others_near r old new run is paced.paced) is.room

  pub told_second : (second : ℕ) → (1 < run.count → IsSecond first unit run second)
      → (equal_durations (past_first r old new run is) run.step (run.count - 1) ≡ [])
      ⊎ (slice_get (equal_durations (past_first r old new run is) run.step (run.count - 1)) 0 ≡ Some second)
  told_second second told =
      by_others r old new run is (run.count - 1) refl second
      (λ some. rw (paced.first_is, paced.unit_is) (told (omega (arith, some))))

  pub paced_next : IsPacedBy new (past_all r old new run is) first unit
  paced_next = record {
    first_is = paced.first_is;
    unit_is = paced.unit_is;
    former = run.first.end.positive;
    begun =
        IsAtMost-trans r.first (time_of run.first.end) (ticks_after (time_of run.first.end)
        ((run.count - 1) * run.step)) run.first.end.positive
        (IsAtMost-trans r.first r.former (time_of run.first.end) paced.former paced.begun ends_rise)
        (IsAtMost-ticks_after ((run.count - 1) * run.step) (time_of run.first.end));
    paced = paced_run r old new run is paced.paced;
  }
