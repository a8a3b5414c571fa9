-- What a pattern says of each address.
use Rattle.std.proofs.Common.{◌≡◌, ℕ, zero, suc, ◌+◌, ◌-◌, ◌<◌, ◌≤◌, ◌^◌, true, false, List, [], ◌∷◌, length, get_or, bytes_eq}
use Rattle.std.proofs.Common.{Option, Some, None, arith, sym, ⊎_elim}
use Rattle.std.proofs.{lemmas.Bool.{and_parts, cases_Bool, leb-true}, lemmas.Slice.Eq.bytes_eq-Decides, lemmas.Option.option_and_then_some}
use Rattle.std.specs.Prelude.{nat_le, slice_range}
use Rattle.segment_forms.specs.{declared.pattern.Pattern.Pattern, Numbers.has_spare_zero, Places.place_of}
use Rattle.segment_forms.specs.Patterns.{AddressesAreGiven, address_at, counts_within, follow, is_pattern_of, pattern_at}
use Rattle.segment_forms.specs.Patterns.{pattern_between, pattern_of}
use Rattle.segment_forms.specs.Patterns.{run_end, run_start, suggested, width_of}
use Rattle.segment_forms.proofs.StepLemmas.{kept_some}

follow_at : (first : List ℕ) (p : Pattern) (k : ℕ) (xs : List (List ℕ)) (i : ℕ) → follow first p k xs ≡ true → i < length xs
    → address_at first p (k + i) ≡ get_or xs i []
follow_at first p k [] i follows below = absurd (omega arith)
follow_at first p k (x ∷ xs) zero follows below =
    let both = and_parts (bytes_eq x (address_at first p k)) (follow first p (k + 1) xs) follows in
    let same : k + 0 ≡ k = omega arith in
    rw same (sym ((bytes_eq-Decides x (address_at first p k)).0 both.0))
follow_at first p k (x ∷ xs) (suc i) follows below =
    let both = and_parts (bytes_eq x (address_at first p k)) (follow first p (k + 1) xs) follows in
    let same : k + 1 + i ≡ k + suc i = omega arith in
    rw same at (follow_at first p (k + 1) xs i both.1 (omega arith))

module _ (first : List ℕ) (rest : List (List ℕ)) (p : Pattern) (is : pattern_of (first ∷ rest) ≡ Some p) where
  tested : (counts_within p (length (first ∷ rest)) ≡ true) × (follow first p 0 (first ∷ rest) ≡ true)
  tested = and_parts (counts_within p (length (first ∷ rest))) (follow first p 0 (first ∷ rest))
      (kept_some (is_pattern_of first rest) (suggested first rest) p is).1

  pub given : (k : ℕ) → k < length (first ∷ rest) → address_at first p k ≡ get_or (first ∷ rest) k []
  given k below = let same : 0 + k ≡ k = omega arith in rw same at (follow_at first p 0 (first ∷ rest) k tested.1 below)

  pub low : (k : ℕ) → k < length (first ∷ rest) → p.first_number + k < 2 ^ 64
  low k below = let most = leb-true (p.first_number + (length (first ∷ rest) - 1)) (2 ^ 32 - 1) tested.0 in omega arith

  narrow_between : (start end : ℕ) → pattern_between first start end ≡ Some p → p.width ≤ 20
  narrow_between start end found =
      let run : List ℕ = slice_range first start end in
      ⊎_elim (λ (few : nat_le (length run) 20 ≡ true).
      let most = leb-true (length run) 20 few in
      let there = rw few at found in
      let same : p.width ≡ width_of run = cc in
      ⊎_elim (λ (spare : has_spare_zero run ≡ true). rw (same, spare) most)
      (λ (none : has_spare_zero run ≡ false). rw (same, none) (omega arith)) (cases_Bool (has_spare_zero run)))
      (λ (many : nat_le (length run) 20 ≡ false). let there : ◌≡◌ {A = Option Pattern} None (Some p) = rw many at found in cc)
      (cases_Bool (nat_le (length run) 20))

  pub narrow : p.width ≤ 20
  narrow = option_and_then_some (pattern_at first) (place_of first rest) p
      (kept_some (is_pattern_of first rest) (suggested first rest) p is).0
      (λ place at found. narrow_between (run_start first place) (run_end first place) found)

pub each_given : AddressesAreGiven
each_given first rest p is k below = given first rest p is k below
