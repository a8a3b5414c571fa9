-- Places in addresses, by what a search finds.
use Rattle.std.proofs.Common.{◌≡◌, ℕ, ◌+◌, ◌-◌, ◌<◌, ◌≤◌, Bool, true, false, List, length, get_or, Some, None, arith}
use Rattle.std.proofs.{Common.{sym, not, refl, ⊎_elim}, lemmas.List.get_or_past, lemmas.List.Sums.suffix_len_is}
use Rattle.std.proofs.lemmas.Bool.{true≢false, cases_lt}
use Rattle.std.proofs.lemmas.Bool.Decides.{nat_tests}
use Rattle.std.specs.{Char.is_ascii_digit, List.suffix_len}
use Rattle.segment_forms.specs.Places.{last_place}

module _ (passes : ℕ → Bool) (text : List ℕ) where
  pub last_place_some : (place : ℕ) → place < length text → passes (get_or text place 0) ≡ true
      → ((k : ℕ) → place + 1 ≤ k → k < length text → passes (get_or text k 0) ≡ false) → Some place ≡ last_place passes text
  last_place_some place within here after =
      let same : place + 1 - 1 ≡ place = omega arith in
      let behind : suffix_len (λ b. not (passes b)) text ≡ length text - (place + 1)
      = suffix_len_is (λ b. not (passes b)) text (place + 1) 0 (omega arith)
      (λ k from below. rw (after k from below) refl) (λ some. rw (same, here) refl) in
      rw behind (grind (arith, nat_tests))

  pub last_place_none : ((k : ℕ) → k < length text → passes (get_or text k 0) ≡ false) → None ≡ last_place passes text
  last_place_none none =
      let behind : suffix_len (λ b. not (passes b)) text ≡ length text - 0 = suffix_len_is (λ b. not (passes b)) text 0 0 (omega arith)
      (λ k from below. rw (none k below) refl) (λ some. absurd (omega arith)) in
      rw behind (grind (arith, nat_tests))

-- a place with a digit is one of the text's
pub digit_within : (text : List ℕ) (place : ℕ) → is_ascii_digit (get_or text place 0) ≡ true → place < length text
digit_within text place digit = ⊎_elim (λ below. below)
    (λ above. absurd (true≢false (sym (rw (get_or_past text place 0 above) at digit)))) (cases_lt place (length text))
