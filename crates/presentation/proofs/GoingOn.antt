-- The segments that are listed behind a time.
use Rattle.std.proofs.Common.{◌≡◌, ℕ, ◌*◌, ℤ, pos, negsuc, ◌≤ℤ◌, arith, true, false, not, List, [], ◌∷◌, ◌++◌, take, drop, map, All, refl}
use Rattle.std.proofs.{Common.{sym, ◌∙◌, ap, inl, inr}, lemmas.Int.ints, lemmas.Bool.cases_Bool, lemmas.List.take-append-drop}
use Rattle.std.proofs.lemmas.List.Elements.{All-filter, All-head, All-rest, filter-append, filter_passes}
use Rattle.std.specs.Prelude.{IfSome, Option, None, Some, unsigned_abs}
use Rattle.exact_time.specs.{Time.{Time, IsAtMost, IsTime, at_most, before, difference, seconds}, Tick.time_of, Floor.floor_in}
use Rattle.exact_time.specs.Rounding.{Rounding, differences, rounding_behind, rounding_from}
use Rattle.exact_time.proofs.{Floors.floor_in-difference_self, TimeOrder.{before-false, before-is, before-true, IsAtMost-from_before}}
use Rattle.exact_time.proofs.{TimeOrder.IsAtMost-trans, Times.{IsTime-difference, le_units-add}}
use Rattle.timeline.specs.{declared.window.Window.Window, Expansions.Timing, Listed.{IsPlaceAfter, is_listed, listed}, Steady.ArePaced}
use Rattle.timeline.specs.{Steady.IsWithinLimits, Faults.is_apart}
use Rattle.presentation.specs.{declared.segments.Behind.Behind, Kept.{ArePacedBehind, printed_left, rounding_at}, Printing.FollowsNear}
use Rattle.presentation.specs.Printing.{GoesOn, begin_of, extent_of, later_than, listed_behind, printed_behind, with_durations}
use Rattle.presentation.proofs.Printing.{floors_of}

abs-le : (z : ℤ) → z ≤ℤ pos (2 * unsigned_abs z)
abs-le (pos n) = omega (arith, ints)
abs-le (negsuc n) = omega (arith, ints)

module _ (former : Time) where
  none_later : (window : Window) (xs : List Timing) → All (λ x. at_most x.end former ≡ true) xs → later_than former (listed window xs) ≡ []
  none_later window [] all = refl
  none_later window (x ∷ xs) all =
      let rest = none_later window xs (All-rest (λ x. at_most x.end former ≡ true) x xs (x ∷ xs) refl all) in
      let here : before former x.end ≡ false = before-is former x.end ∙ ap not (All-head (λ x. at_most x.end former ≡ true) x xs all) in
      elim (cases_Bool (is_listed window x)) [ inl is ↦ rw (is, here) rest | inr not_listed ↦ rw not_listed rest ]

  all_later : (xs : List Timing) → All (λ x. before former x.end ≡ true) xs → later_than former xs ≡ xs
  all_later [] all = refl
  all_later (x ∷ xs) all =
      let rest = all_later xs (All-rest (λ x. before former x.end ≡ true) x xs (x ∷ xs) refl all) in
      rw (All-head (λ x. before former x.end ≡ true) x xs all) (ap (λ ys. x ∷ ys) rest)

  pub listed_later : (window : Window) (xs : List Timing) (place : ℕ) → IsPlaceAfter former xs place
      → listed window (drop place xs) ≡ later_than former (listed window xs)
  listed_later window xs place is =
      sym (ap (λ ys. later_than former (listed window ys)) (sym (take-append-drop place xs))
      ∙ ap (later_than former) (filter-append (is_listed window) (take place xs) (drop place xs))
      ∙ filter-append (λ x. before former x.end) (listed window (take place xs)) (listed window (drop place xs))
      ∙ ap (λ ys. ys ++ later_than former (listed window (drop place xs))) (none_later window (take place xs) is.none_before)
      ∙ all_later (listed window (drop place xs))
      (All-filter (is_listed window) (λ x. before former x.end ≡ true) (drop place xs) is.all_behind))

  -- a segment ends near a time that it isn't apart from
  ends_near : IsTime former → (x : Timing) → IsWithinLimits x → is_apart (Some former) (extent_of x) ≡ false
      → IsAtMost (difference x.end former) (seconds 2000000)
  ends_near is_former x is near =
      let start = difference x.start former in
      let gap : Time = record { ticks = pos (2 * unsigned_abs start.ticks); scale = start.scale } in
      let short = IsAtMost-trans gap (difference x.end x.start) (seconds 1000000) (IsTime-difference x.end x.start is.end_is is.start_is)
      (before-false (difference x.end x.start) gap near) is.lasts in
      let less = abs-le start.ticks in
      let late : IsAtMost start (seconds 1000000) = omega (arith, ints, less, short) in
      le_units-add 1 1000000 1000000 x.end x.start former is.start_is is.lasts late

  -- their ends may be given in turn behind the former one
  paced_behind : (unit : ℕ) (first : Time) (xs : List Timing) → IsTime former → ArePaced xs → All IsWithinLimits xs
      → All (λ x. before former x.end ≡ true) xs → FollowsNear former xs
      → ArePacedBehind xs (rounding_behind first unit former)
  paced_behind unit first [] is_former paced limits later near = record { rising = tt; near = tt }
  paced_behind unit first (x ∷ xs) is_former paced limits later near = record {
    rising = (
      paced.0.0,
      IsAtMost-from_before former x.end
          (before-true former x.end (All-head (λ x. before former x.end ≡ true) x xs later)),
      paced.0.2,
    );
    near = (ends_near is_former x (All-head IsWithinLimits x xs limits) near, paced.1.1);
  }

paced_first : (unit : ℕ) (xs : List Timing) → ArePaced xs → ArePacedBehind xs (rounding_from (begin_of xs) unit)
paced_first unit [] paced = record { rising = tt; near = tt }
paced_first unit (x ∷ xs) paced = record { rising = paced.0; near = paced.1 }

paced_at : (behind : Option Behind) (unit : ℕ) (xs : List Timing) → ArePaced (listed_behind behind xs)
    → All IsWithinLimits (listed_behind behind xs) → IfSome behind (GoesOn xs)
    → ArePacedBehind (listed_behind behind xs) (rounding_at behind unit xs)
paced_at None unit xs paced limits goes_on = paced_first unit xs paced
paced_at (Some b) unit xs paced limits goes_on =
    paced_behind (time_of b.former) unit (time_of b.first) (later_than (time_of b.former) xs) b.former.positive paced limits
    (filter_passes (λ x. before (time_of b.former) x.end) xs) goes_on.near

printed_at : (behind : Option Behind) (unit : ℕ) (xs : List Timing)
    → printed_left (listed_behind behind xs) (rounding_at behind unit xs) ≡ printed_behind behind unit xs
printed_at None unit xs =
    ap (λ n. with_durations xs (differences n (map (λ x. floor_in unit (difference x.end (begin_of xs))) xs)))
    (floor_in-difference_self unit (begin_of xs))
    ∙ ap (λ floors. with_durations xs (differences 0 floors)) (floors_of unit (begin_of xs) xs)
printed_at (Some b) unit xs =
    let later = later_than (time_of b.former) xs in
    ap (λ floors. with_durations later (differences (floor_in unit (difference (time_of b.former) (time_of b.first))) floors))
    (floors_of unit (time_of b.first) later)

-- where the segments and the rounder stand
module _ (behind : Option Behind) (unit : ℕ) (xs ys : List Timing) (r : Rounding) (from : ys ≡ listed_behind behind xs)
    (rounder : r ≡ rounding_at behind unit xs) where
  pub paced_there : ArePaced ys → All IsWithinLimits ys → IfSome behind (GoesOn xs) → ArePacedBehind ys r
  paced_there paced limits goes_on = rw (from, rounder) (paced_at behind unit xs (rw from at paced) (rw from at limits) goes_on)

  pub printed_there : printed_left ys r ≡ printed_behind behind unit xs
  printed_there = ap (λ zs. printed_left zs r) from ∙ ap (printed_left (listed_behind behind xs)) rounder ∙ printed_at behind unit xs
