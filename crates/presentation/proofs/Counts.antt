-- Faults and counts over places in order.
use Rattle.std.proofs.Common.{◌≡◌, ℕ, suc, ◌+◌, ◌-◌, ◌^◌, ◌<◌, min, List, [], ◌∷◌, ◌++◌, flat_map, sum_by, Bool, true, false, ◌||◌, nat_lt}
use Rattle.std.proofs.{Common.{Ok, refl, ap, ◌∙◌, sym, arith}, lemmas.List.Sums.sum_by-cons, lemmas.Bool.Decides.nat_tests}
use Rattle.std.specs.List.{range_with_len, list_any}
use Rattle.presentation.specs.{declared.fault.PresentationFault.PresentationFault, Counting.{capped, unless_over}}

-- the places from one on, below a number
abbrev pub from_on : (i n : ℕ) → List ℕ
from_on i n = range_with_len i (n - i)

pub from_on-first : (i n : ℕ) → i < n → from_on i n ≡ i ∷ from_on (i + 1) n
from_on-first i n within = let e : n - i ≡ suc (n - (i + 1)) = omega arith in ap (range_with_len i) e

pub from_on-start : (n : ℕ) → from_on 0 n ≡ range_with_len 0 n
from_on-start n = let e : n - 0 ≡ n = omega arith in ap (range_with_len 0) e

pub from_on-end : (n : ℕ) → from_on n n ≡ []
from_on-end n = let e : n - n ≡ 0 = omega arith in ap (range_with_len n) e

module _ (faults : ℕ → List PresentationFault) (count : ℕ → ℕ) (i n : ℕ) (within : i < n) where
  pub faults_here : flat_map faults (from_on i n) ≡ faults i ++ flat_map faults (from_on (i + 1) n)
  faults_here = ap (flat_map faults) (from_on-first i n within)

  pub no_fault_here : faults i ≡ [] → flat_map faults (from_on i n) ≡ flat_map faults (from_on (i + 1) n)
  no_fault_here none = faults_here ∙ ap (λ first. first ++ flat_map faults (from_on (i + 1) n)) none

  pub one_more : (total more : ℕ) → more ≡ min (2 ^ 64 - 1) (total + count i)
      → capped (more + sum_by count (from_on (i + 1) n)) ≡ capped (total + sum_by count (from_on i n))
  one_more total more is = let sum : sum_by count (from_on i n) ≡ count i + sum_by count (from_on (i + 1) n) =
      ap (sum_by count) (from_on-first i n within) ∙ sum_by-cons count i (from_on (i + 1) n) in rw (sum, is) (omega arith)

or_regroup : (a b c : Bool) → ((a || b) || c) ≡ (a || (b || c))
or_regroup true b c = refl
or_regroup false b c = refl

pub over_here : (is_long : ℕ → Bool) (over here : Bool) (i n : ℕ) → i < n → here ≡ is_long i
    → ((over || here) || list_any is_long (from_on (i + 1) n)) ≡ (over || list_any is_long (from_on i n))
over_here is_long over here i n within is = rw is (or_regroup over (is_long i) (list_any is_long (from_on (i + 1) n))
    ∙ sym (ap (λ xs. over || list_any is_long xs) (from_on-first i n within)))

-- a count that stops at the last value of a counter is as much over a limit
pub long_as : (n limit : ℕ) → limit < 2 ^ 64 - 1 → nat_lt limit (capped n) ≡ nat_lt limit n
long_as n limit small = grind (arith, nat_tests)

told_by : (over : Bool) (total all : ℕ) → (over ≡ false → total ≡ all) → unless_over over total ≡ unless_over over all
told_by true total all same = refl
told_by false total all same = ap Ok (same refl)

not_over : (a b : Bool) → (a || b) ≡ false → b ≡ false
not_over true b h = absurd (cc)
not_over false b h = h

exact : (total all : ℕ) → total ≡ capped all → nat_lt 500000 all ≡ false → total ≡ all
exact total all is small = grind (arith, nat_tests)

-- whether the whole is told as it is
pub all_told : (over long : Bool) (total all : ℕ) → over ≡ long → total ≡ capped all
    → unless_over (over || nat_lt 500000 total) total ≡ unless_over (long || nat_lt 500000 all) all
all_told over long total all same is =
    let as_long : nat_lt 500000 total ≡ nat_lt 500000 all = rw is (long_as all 500000 (omega arith)) in
    rw (same, as_long) (told_by (long || nat_lt 500000 all) total all
    (λ within. exact total all is (not_over long (nat_lt 500000 all) within)))
