-- Printed durations, and dates that can be written.
use Rattle.std.proofs.Common.{◌≡◌, ℕ, ◌-◌, List, [], ◌∷◌, map, refl, ap, Option, Some, None, All, pos, neg_ℤ, ◌≤ℤ◌, ◌<ℤ◌, sym, ◌∙◌, arith}
use Rattle.std.proofs.{lemmas.Bool.and_parts, lemmas.List.Elements.{All-filter, filter_passes}, lemmas.Int.ints}
use Rattle.exact_time.specs.{Time.{Time, difference, before, seconds, IsAtMost, IsBefore}, Floor.floor_in, Rounding.{differences, Rounding}}
use Rattle.exact_time.specs.{declared.tick.Tick.Tick, Tick.time_of}
use Rattle.timeline.specs.{Expansions.Timing, declared.window.Window.Window, Listed.{is_listed, listed}, Steady.{ArePaced, IsWithinLimits}}
use Rattle.presentation.specs.{Printing.{begin_of, durations_of, printed_timings, with_durations, GoesOn}, Verifying.greatest}
use Rattle.presentation.specs.{Verifying.longest_left, declared.segments.Behind.Behind, Kept.{ArePacedBehind, rounding_at}}
use Rattle.std.specs.Prelude.{IfSome, true}
use Rattle.presentation.proofs.{Counts.from_on-first, GoingOn.paced_there}
use Rattle.live_session.specs.{New.later_listed, Paced.IsDatable, Making.IsNear}
use Rattle.exact_time.proofs.TimeOrder.{IsAtMost-from_before, IsAtMost-trans, IsAtMost_refl, at_most-from, before-true, not_at_most-from}
use Rattle.exact_time.proofs.Times.{IsTime-difference, difference-le}
use Rattle.timeline.proofs.Ratios.{at_most-floor, int_le-false, int_le-true}
use Rattle.live_meaning.specs.Segments.{whole_nanos}

durations_with : (f : Time → ℕ) (xs : List Timing) (n : ℕ)
    → map (λ x. x.duration) (with_durations xs (differences n (map f (map (λ (x : Timing). x.end) xs))))
    ≡ differences n (map f (map (λ (x : Timing). x.end) xs))
durations_with f [] n = refl
durations_with f (x ∷ xs) n = ap (λ ds. (f x.end - n) ∷ ds) (durations_with f xs (f x.end))

pub longest_printed : (unit : ℕ) (xs : List Timing) → longest_left (printed_timings unit xs) ≡ greatest (durations_of unit xs)
longest_printed unit xs = ap greatest (durations_with (λ end. floor_in unit (difference end (begin_of xs))) xs 0)

-- what is listed ends behind the Period's start
listed_ends : (window : Window) (xs : List Timing) → All (λ x. before (seconds 0) x.end ≡ true) (listed window xs)
listed_ends window xs = λ k d within. (and_parts _ _ (and_parts _ _ (filter_passes (is_listed window) xs k d within)).0).0

later_ends : (end : Option Tick) (window : Window) (xs : List Timing)
    → All (λ x. before (seconds 0) x.end ≡ true) (later_listed end (listed window xs))
later_ends None window xs = listed_ends window xs
later_ends (Some end) window xs =
    All-filter (λ x. before (time_of end) x.end) (λ x. before (seconds 0) x.end ≡ true) (listed window xs) (listed_ends window xs)

pub datable : (end : Option Tick) (window : Window) (xs ys : List Timing) → ys ≡ later_listed end (listed window xs) → All IsWithinLimits ys
    → All IsDatable ys
datable end window xs ys same limits =
    let ends : All (λ x. before (seconds 0) x.end ≡ true) ys = rw same (later_ends end window xs) in
    λ k d within. record { limits = limits k d within; ends = ends k d within }

-- behind others or from their own beginning on
pub paced_as : (end : Option Tick) (behind : Option Behind) (unit : ℕ) (listed ys : List Timing) (r : Rounding)
    → ys ≡ later_listed end listed → r ≡ rounding_at behind unit (later_listed end listed) → ArePaced ys → All IsWithinLimits ys
    → IfSome behind (λ b. (end ≡ Some b.former) × GoesOn listed b) → ArePacedBehind ys r
paced_as end None unit listed ys r same is paced limits goes_on =
    paced_there None unit ys ys r refl (is ∙ ap (rounding_at None unit) (sym same)) paced limits tt
paced_as end (Some b) unit listed ys r same is paced limits (at, goes_on) =
    paced_there (Some b) unit listed ys r (same ∙ ap (λ e. later_listed e listed) at) (is ∙ ap (rounding_at (Some b) unit) (sym same)) paced
    limits goes_on

pub least_nanos : (start : Time) → IsNear start → neg_ℤ (pos 1000000000000000) ≤ℤ whole_nanos start
least_nanos start near =
    let low : IsAtMost (record { ticks = neg_ℤ (pos 1000000000000000); scale = 1000000000 }) start = omega (arith, ints, near.low) in
    int_le-true _ _ (sym (at_most-floor (neg_ℤ (pos 1000000000000000)) 1000000000 start near.is)
    ∙ at_most-from (record { ticks = neg_ℤ (pos 1000000000000000); scale = 1000000000 }) start low)

pub most_nanos : (start : Time) → IsNear start → whole_nanos start <ℤ pos 100000000000000000001
most_nanos start near =
    let is = near.is in
    let high : IsBefore start (record { ticks = pos 100000000000000000001; scale = 1000000000 }) = omega (arith, ints, near.high) in
    int_le-false _ _ (sym (at_most-floor (pos 100000000000000000001) 1000000000 start near.is)
    ∙ not_at_most-from (record { ticks = pos 100000000000000000001; scale = 1000000000 }) start high)

-- a segment that ends behind its Period's start, within the limits, begins near its Period
pub near_period : (x : Timing) → IsDatable x → IsNear x.start
near_period x is =
    let limits = is.limits in
    let start = x.start in
    let end = x.end in
    let zero_to_end : IsAtMost (difference (seconds 0) start) (difference end start)
    = difference-le (seconds 0) end start start (IsAtMost-from_before (seconds 0) end (before-true (seconds 0) end is.ends))
    (IsAtMost_refl start) in
    let short : IsAtMost (difference (seconds 0) start) (seconds 1000000)
    = IsAtMost-trans (difference (seconds 0) start) (difference end start) (seconds 1000000)
    (IsTime-difference end start limits.end_is limits.start_is) zero_to_end limits.lasts in
    record {
      is = limits.start_is;
      low = omega (arith, ints, short);
      high = IsAtMost-trans start end (seconds 100000000000) limits.end_is (IsAtMost-from_before start end limits.begins) limits.near;
    }

pub ruleset dated = (least_nanos, most_nanos, ints)

pub ruleset in_order = (from_on-first)
