-- Segments that are equally long, passed at once.
use Rattle.std.proofs.Common.{◌≡◌, ℕ, zero, suc, ◌+◌, ◌-◌, ◌*◌, List, [], ◌∷◌, ◌++◌, map, pos, ◌+ℤ◌, refl, ◌∙◌, ap, subst, arith}
use Rattle.std.proofs.{lemmas.Int.ints, lemmas.List.map-append}
use Rattle.exact_time.specs.{Time.{Time, difference}, Tick.time_of, Floor.floor_in, Equal.{ends_after, equal_durations, ticks_after}}
use Rattle.exact_time.specs.Rounding.{AreNear, IsRising, Rounding, differences, total}
use Rattle.timeline.specs.{Expansions.Timing, SpanRuns.{IsNextRun, timings_of}, declared.span.SpanRun.SpanRun}
use Rattle.presentation.specs.{Kept.{ArePacedBehind, durations_behind, printed_left}, Printing.{ends_of, with_durations}}
use Rattle.presentation.specs.Verifying.{last_end}
use Rattle.presentation.proofs.Printing.{floors_of}

-- ---- segments behind others

-- the rounder behind some segments
abbrev pub rounding_past : Rounding → List Timing → Rounding
rounding_past r xs = record r { former = last_end r.former xs }

left_split : (r : Rounding) (xs ys : List Timing) → printed_left (xs ++ ys) r ≡ printed_left xs r ++ printed_left ys (rounding_past r xs)
left_split r [] ys = refl
left_split r (x ∷ xs) ys =
    ap (λ left. record { times = x; duration = floor_in r.unit (difference x.end r.first) - total r } ∷ left)
    (left_split (record r { former = x.end }) xs ys)

rising_past : (former : Time) (xs ys : List Timing) → IsRising former (ends_of (xs ++ ys)) → IsRising (last_end former xs) (ends_of ys)
rising_past former [] ys rising = rising
rising_past former (x ∷ xs) ys rising = rising_past x.end xs ys rising.2

near_past : (former : Time) (xs ys : List Timing) → AreNear former (ends_of (xs ++ ys)) → AreNear (last_end former xs) (ends_of ys)
near_past former [] ys near = near
near_past former (x ∷ xs) ys near = near_past x.end xs ys near.1

-- ---- equal segments

abbrev last_time : Time → List Time → Time
last_time former [] = former
last_time former (end ∷ ends) = last_time end ends

last_by_ends : (former : Time) (xs : List Timing) → last_end former xs ≡ last_time former (ends_of xs)
last_by_ends former [] = refl
last_by_ends former (x ∷ xs) = last_by_ends x.end xs

last_after : (former : Time) (step count : ℕ) → last_time former (ends_after former step count) ≡ ticks_after former (count * step)
unfolding ends_after
last_after former step zero =
    (let none : former.ticks ≡ former.ticks +ℤ pos (0 * step) = omega (arith, ints) in ap (λ ticks. record former { ticks = ticks }) none)
last_after former step (suc count) =
    let same : (former.ticks +ℤ pos step) +ℤ pos (count * step) ≡ former.ticks +ℤ pos (suc count * step) = omega (arith, ints) in
    last_after (ticks_after former step) step count ∙ ap (λ ticks. record former { ticks = ticks }) same

near_first : (former : Time) (ends later : List Time) → AreNear former (ends ++ later) → AreNear former ends
near_first former [] later near = tt
near_first former (end ∷ ends) later near = (near.0, near_first end ends later near.1)

module _ (r : Rounding) (old new : List Timing) (run : SpanRun) (is : IsNextRun old run new) where
  abbrev passed : List Timing
  passed = timings_of run

  abbrev first_end : Time
  first_end = time_of run.first.end

  abbrev others : ℕ
  others = run.count - 1

  abbrev pub past_first : Rounding
  past_first = record r { former = first_end }

  abbrev pub past_all : Rounding
  past_all = record r { former = ticks_after first_end (others * run.step) }

  former_is : last_end r.former passed ≡ ticks_after first_end (others * run.step)
  former_is = last_by_ends r.former passed ∙ ap (last_time r.former) is.ends ∙ last_after first_end run.step others

  durations_are : durations_behind r passed ≡ (total past_first - total r) ∷ equal_durations past_first run.step others
  durations_are = ap (differences (total r)) (floors_of r.unit r.first passed)
      ∙ ap (λ ends. differences (total r) (map (λ end. floor_in r.unit (difference end r.first)) ends)) is.ends

  pub printed_run : (first : ℕ) → total r + first ≡ total past_first
      → printed_left old r ≡ with_durations passed (first ∷ equal_durations past_first run.step others) ++ printed_left new past_all
  printed_run first called =
      let same : total past_first - total r ≡ first = omega arith in
      ap (λ xs. printed_left xs r) is.next ∙ left_split r passed new
      ∙ ap (λ ds. with_durations passed ds ++ printed_left new (rounding_past r passed)) (durations_are
      ∙ ap (λ d. d ∷ equal_durations past_first run.step others) same)
      ∙ ap (λ former. with_durations passed (first ∷ equal_durations past_first run.step others) ++ printed_left new
      (record r { former = former })) former_is

  ends_are : ends_of old ≡ first_end ∷ (ends_after first_end run.step others ++ ends_of new)
  ends_are = ap ends_of is.next ∙ map-append (λ x. x.end) passed new ∙ ap (λ ends. ends ++ ends_of new) is.ends

  module _ (paced : ArePacedBehind old r) where
    pub paced_run : ArePacedBehind new past_all
    paced_run = record {
      rising = subst (λ former. IsRising former (ends_of new)) former_is (rising_past r.former passed new (rw is.next at paced.rising));
      near = subst (λ former. AreNear former (ends_of new)) former_is (near_past r.former passed new (rw is.next at paced.near));
    }

    pub others_near : AreNear first_end (ends_after first_end run.step others)
    others_near =
        let near : AreNear r.former (first_end ∷ (ends_after first_end run.step others ++ ends_of new)) = subst
        (AreNear r.former) ends_are paced.near in
        near_first first_end (ends_after first_end run.step others) (ends_of new) near.1
