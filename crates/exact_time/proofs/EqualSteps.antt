-- Segments that are equally long: each printed duration is the whole number of units in a step, or one more.
use Rattle.std.proofs.Common.{◌≡◌, ℕ, zero, suc, ◌+◌, ◌*◌, ◌/◌, ◌<◌, ◌≤◌, List, [], ◌∷◌, length, refl, ap, subst, sym, inl, inr, arith}
use Rattle.std.proofs.{lemmas.Int.ints, lemmas.Bool.cases_lt, lemmas.Bool.Decides.nat_tests, lemmas.List.Elements.All-from_recursion}
use Rattle.std.proofs.{lemmas.List.Sums.sum_by-cons, Math.Nat.{div-le_of_le-mul, div-mul-le_self, le_of_mul-le-mul_left, mul-le-mul_left}}
use Rattle.std.specs.{Prelude.{max, sum, All}, List.AllByRecursion}
use borrow.Author.Differences.{up, down}
use Rattle.exact_time.specs.{Time.{Time, IsTime, IsAtMost, difference, in_units, seconds}, Floor.{IsFloorIn, floor_in}, Rounding.AreNear}
use Rattle.exact_time.specs.{Rounding.{Rounding, Calls, total}, Equal.{ticks_after, ends_after, equal_durations, greatest, longest_by}}
use Rattle.exact_time.specs.Equal.{summed_up}
use Rattle.exact_time.proofs.{TimeOrder.{share, share_le_in, IsAtMost-trans}, Times.{units_le_in, le_units_in, le_units_out}}
use Rattle.exact_time.proofs.{Floors.{IsFloorIn-difference, floor-before, floor-after}, Printed.calls_sum, Roundings.IsBegun}

-- ---- one step

apart_by : (u step : ℕ) (f : Time) → share (ticks_after f step) f * u ≡ (share f (ticks_after f step) + step * f.scale) * u
apart_by u step f =
    let linear : up (ticks_after f step).ticks + down f.ticks ≡ up f.ticks + down (ticks_after f step).ticks + step = omega (arith, ints) in
    ap (λ k. k * u) (omega (arith, ap (λ k. k * f.scale) linear))

-- c units are no longer than the step
pub at_least_step : (u c step : ℕ) (f : Time) → c * f.scale ≤ step * u → IsAtMost (in_units u c) (difference (ticks_after f step) f)
at_least_step u c step f h = units_le_in u c (ticks_after f step) f (omega (arith, apart_by u step f, mul-le-mul_left f.scale h))

-- c units are no shorter than the step
pub at_most_step : (u c step : ℕ) (f : Time) → step * u ≤ c * f.scale → IsAtMost (difference (ticks_after f step) f) (in_units u c)
at_most_step u c step f h = le_units_in u c (ticks_after f step) f (omega (arith, apart_by u step f, mul-le-mul_left f.scale h))

step_is_short : (step c : ℕ) (f : Time) → IsTime f → IsAtMost (difference (ticks_after f step) f) (seconds c) → step ≤ c * f.scale
step_is_short step c f is h =
    le_of_mul-le-mul_left {k = f.scale} (omega (arith, le_units_out 1 c (ticks_after f step) f h, apart_by 1 step f)) is

pub IsAtMost-ticks_after : (step : ℕ) (f : Time) → IsAtMost f (ticks_after f step)
IsAtMost-ticks_after step f = share_le_in f (ticks_after f step) (omega (arith, apart_by 1 step f))

-- a number is the least one, or one more
abbrev pub IsNear : ℕ → ℕ → Type 0
IsNear least n = (least ≤ n) × (n ≤ least + 1)

begun_after : (r : Rounding) (step : ℕ) → IsBegun r → IsBegun (record r { former = ticks_after r.former step })
begun_after r step is = record {
  first_is = is.first_is;
  former_is = is.former_is;
  begun = IsAtMost-trans r.first r.former (ticks_after r.former step) is.former_is is.begun (IsAtMost-ticks_after step r.former);
}

step_is_near : (r : Rounding) (step : ℕ) → IsBegun r →
    IsNear (total r + step * r.unit / r.former.scale) (total (record r { former = ticks_after r.former step }))
step_is_near r step is =
    let end : Time = ticks_after r.former step in
    let later : IsBegun (record r { former = end }) = begun_after r step is in
    let is_m : IsFloorIn r.unit (difference r.former r.first) (total r) =
    IsFloorIn-difference r.unit r.former r.first is.former_is is.first_is is.begun in
    let is_n : IsFloorIn r.unit (difference end r.first) (floor_in r.unit (difference end r.first)) =
    IsFloorIn-difference r.unit end r.first is.former_is is.first_is later.begun in
    let least : ℕ = step * r.unit / r.former.scale in
    let scale : 0 < r.former.scale = is.former_is in (
      floor-after r.unit _ _ least end r.former r.first is.former_is
          (at_least_step r.unit least step r.former (div-mul-le_self (step * r.unit) r.former.scale)) is_m is_n,
      omega (
        arith,
        floor-before r.unit _ _ (least + 1) end r.former r.first is.former_is
            (at_most_step r.unit (least + 1) step r.former (omega arith)) is_m is_n,
      ),
    )

-- ---- as many as there are

durations_are_near : (r : Rounding) (step count : ℕ) → IsBegun r →
    AllByRecursion (IsNear (step * r.unit / r.former.scale)) (equal_durations r step count)
unfolding ends_after
durations_are_near r step zero is = tt
durations_are_near r step (suc count) is =
    let here = step_is_near r step is in (
      (omega (arith, here.0), omega (arith, here.1)),
      durations_are_near (record r { former = ticks_after r.former step }) step count
          (begun_after r step is),
    )

length-equal_durations : (r : Rounding) (step count : ℕ) → length (equal_durations r step count) ≡ count
unfolding ends_after
length-equal_durations r step zero = refl
length-equal_durations r step (suc count) = ap suc (length-equal_durations (record r { former = ticks_after r.former step }) step count)

pub ticks_further : (f : Time) (step count : ℕ) → ticks_after (ticks_after f step) (count * step) ≡ ticks_after f (suc count * step)
ticks_further f step count = ap (λ n. record { ticks = n; scale = f.scale }) (omega (arith, ints))

pub ticks_after-none : (f : Time) (step : ℕ) → ticks_after f (0 * step) ≡ f
ticks_after-none f step = ap (λ n. record { ticks = n; scale = f.scale }) (omega (arith, ints))

-- the calls that `next_equal` stands for
equal_calls : (r : Rounding) (step count : ℕ) → IsBegun r → AreNear r.former (ends_after r.former step count) →
    Calls r (ends_after r.former step count) (equal_durations r step count) (record r { former = ticks_after r.former (count * step) })
unfolding ends_after
equal_calls r step zero is near = ap (λ (f : Time). record r { former = f }) (ticks_after-none r.former step)
equal_calls r step (suc count) is (near, later) =
    let moved : Rounding = record r { former = ticks_after r.former step } in
    let here = step_is_near r step is in (
      moved,
      record {
        is_time = is.former_is;
        not_before = IsAtMost-ticks_after step r.former;
        near = near;
        printed_next = omega
            (arith, here.0);
        kept = refl;
      },
      subst (λ (f : Time). Calls moved (ends_after moved.former step count) (equal_durations moved step count) (record r { former = f }))
          (ticks_further r.former step count) (equal_calls moved step count (begun_after r step is) later),
    )

-- so many units are at most 2,000,000 s
pub few_units : (r : Rounding) (step count : ℕ) → IsTime r.former → AreNear r.former (ends_after r.former step count) → 0 < count →
    step * r.unit / r.former.scale ≤ 2000000 * r.unit
unfolding ends_after
few_units r step zero is near some = absurd (omega arith)
few_units r step (suc count) is (near, later) some =
    div-le_of_le-mul r.former.scale (omega (arith, mul-le-mul_left r.unit (step_is_short step 2000000 r.former is near)))

-- ---- sums of numbers that are near one another

-- what is known of the sum and of the greatest one
record AreEven (least count total most : ℕ) : Type 0 where
  low : count * least ≤ total
  high : most ≤ least + 1
  all_least : total ≤ count * least → most ≤ least
  some_more : count * least < total → most ≡ least + 1
  reached : 0 < count → least ≤ most
  none : count ≡ 0 → most ≡ 0

one_more : (least n count total most : ℕ) → IsNear least n → AreEven least count total most → suc count * least < n + total →
    max n most ≡ least + 1
one_more least n count total most near rest more = elim (cases_lt (count * least) total) [
  | inl some ↦ omega (arith, rest.some_more some)
  | inr all ↦ omega (arith, rest.all_least all, rest.low)
]

sum-near : (least : ℕ) (ns : List ℕ) → AllByRecursion (IsNear least) ns → AreEven least (length ns) (sum ns) (greatest ns)
sum-near least [] all =
    record {
      low = omega arith;
      high = omega arith;
      all_least = λ e. omega arith;
      some_more = λ e. omega arith;
      reached = λ h. omega
          arith;
      none = λ e. refl;
    }
sum-near least (n ∷ ns) (here, all) =
    let rest = sum-near least ns all in
    record {
      low = omega (arith, sum_by-cons (λ m. m) n ns, rest.low);
      high = omega (arith, rest.high);
      all_least = λ e. omega (arith, sum_by-cons (λ m. m) n ns, rest.low, rest.all_least);
      some_more = λ e. one_more least n (length ns) (sum ns) (greatest ns) here rest (omega (arith, sum_by-cons (λ m. m) n ns));
      reached = λ h. omega arith;
      none = λ e. omega (arith, e);
    }

longest_is : (least count total most : ℕ) → AreEven least count total most → longest_by total least count ≡ most
longest_is least count total most are = elim (cases_lt 0 count) [
  | inl some ↦ elim (cases_lt (count * least) total) [
    | inl more ↦ let e = are.some_more more in grind (arith, nat_tests)
    | inr all ↦ let e = are.all_least all in let low = are.low in let reached = are.reached some in grind (arith, nat_tests)
  ]
  | inr none ↦ let e = are.none (omega arith) in grind (arith, nat_tests)
]

-- ---- a call of `next_equal` at a `Rounder` that is seen as `r`

module _ (r : Rounding) (is : IsBegun r) (step count : ℕ) where
  abbrev numbers : List ℕ
  numbers = equal_durations r step count

  near_numbers : AllByRecursion (IsNear (step * r.unit / r.former.scale)) numbers
  near_numbers = durations_are_near r step count is

  are_even : AreEven (step * r.unit / r.former.scale) count (sum numbers) (greatest numbers)
  are_even = subst (λ (n : ℕ). AreEven (step * r.unit / r.former.scale) n (sum numbers) (greatest numbers))
      (length-equal_durations r step count) (sum-near _ numbers near_numbers)

  -- it goes on to the last end, up to which so many units are printed
  module _ (near : AreNear r.former (ends_after r.former step count)) (new : Rounding)
      (new_is : new ≡ record r { former = ticks_after r.former (count * step) }) (printed : ℕ)
      (printed_is : total r + printed ≡ total new) where
    pub calls : Calls r (ends_after r.former step count) numbers new
    calls = subst (λ (s : Rounding). Calls r (ends_after r.former step count) numbers s) (sym new_is) (equal_calls r step count is near)

    sum_is : sum numbers ≡ printed
    sum_is = omega (arith, printed_is, calls_sum r (ends_after r.former step count) numbers new calls)

    longest : longest_by printed (step * r.unit / r.former.scale) count ≡ greatest numbers
    longest = longest_is _ count printed (greatest numbers)
        (subst (λ (n : ℕ). AreEven (step * r.unit / r.former.scale) count n (greatest numbers)) sum_is are_even)

    pub summed : (record { total = printed; longest = longest_by printed (step * r.unit / r.former.scale) count }) ≡ summed_up numbers
    summed = let sums = sum_is in let most = longest in cc

    even_by : (least most : ℕ) → most ≤ least + 1 → (ns : List ℕ) → AllByRecursion (IsNear least) ns → AllByRecursion (λ n. most ≤ n + 1) ns
    even_by least most high [] all = tt
    even_by least most high (n ∷ ns) (here, all) = (omega (arith, here.0), even_by least most high ns all)

    pub even : All (λ n. longest_by printed (step * r.unit / r.former.scale) count ≤ n + 1) numbers
    even = All-from_recursion _ numbers (even_by _ _ (omega (arith, are_even.high, longest)) numbers near_numbers)
