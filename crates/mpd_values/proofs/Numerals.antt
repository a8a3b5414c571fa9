-- What digits write, as the library reads it.
use Rattle.std.proofs.Common.{◌≡◌, ◌≢◌, ℕ, ◌+◌, ◌^◌, ◌<◌, ◌≤◌, ◌&&◌, Bool, true, false, List, length, Option, Some, None, Result, Ok, Err, OkIff}
use Rattle.std.proofs.Common.{[], ◌∷◌, ◌==◌, ◌∙◌, refl, sym, ap, arith, inl, inr}
use Rattle.std.proofs.lemmas.{Bool.{cases_Bool, eqb-false, eqb-true}, Bool.Decides.nat_tests}
use Rattle.std.proofs.lemmas.Str.Parse.{IsNumeralModel, numerals_by_value, parse_plain, tells_all_ascii_digits}
use Rattle.std.specs.{Prelude.{nat_lt, slice_index}, Result.result_ok, Str.all_ascii_digits, Str.Parse.{ParsesUnsigned, digits_value}}
use Rattle.mpd_values.specs.Numbers.{numeral_of, kept_if, is_between}

model : IsNumeralModel (λ ds. all_ascii_digits ds ≡ true) (digits_value 10)
model = numerals_by_value _ tells_all_ascii_digits

module _ (text : List ℕ) where
  abbrev Fits : Type 0
  Fits = (all_ascii_digits text ≡ true) × (0 < length text) × (digits_value 10 text < 2 ^ 64)

  none_kept : ¬ Fits → None ≡ kept_if (is_between 0 (2 ^ 64)) (numeral_of text)
  none_kept none = elim (cases_Bool (all_ascii_digits text)) [
    | inl digits ↦ elim (cases_Bool (nat_lt 0 (length text))) [
      | inl some ↦ elim (cases_Bool (nat_lt (digits_value 10 text) (2 ^ 64))) [
        | inl small ↦ absurd (none (digits, grind (arith, nat_tests), grind (arith, nat_tests)))
        | inr much ↦ grind (arith, nat_tests)
      ]
      | inr empty ↦ rw (digits, empty) refl
    ]
    | inr other ↦ rw other refl
  ]

  by_answer : {E : Type 0} (r : Result ℕ E) → OkIff r Fits (digits_value 10 text)
      → result_ok r ≡ kept_if (is_between 0 (2 ^ 64)) (numeral_of text)
  by_answer (Ok n) told =
      let digits : all_ascii_digits text ≡ true = told.0.0 in
      let some = told.0.1 in
      let small = told.0.2 in
      let is = told.1 in
      grind (arith, nat_tests)
  by_answer (Err e) none = none_kept none

pub plus_none : (text bytes : List ℕ) (plus : Bool) → bytes ≡ text → plus ≡ (slice_index bytes 0 == 43) → plus ≡ true
    → None ≡ kept_if (is_between 0 (2 ^ 64)) (numeral_of text)
plus_none text bytes plus same is there = first text (ap (λ (t : List ℕ). slice_index t 0 == 43) (sym same) ∙ sym is ∙ there)
  where
    first : (t : List ℕ) → (slice_index t 0 == 43) ≡ true → None ≡ kept_if (is_between 0 (2 ^ 64)) (numeral_of t)
    first [] there = absurd (cc)
    first (b ∷ bs) there = let is : b ≡ 43 = eqb-true b 43 there in rw is refl

-- without a plus
pub read_plain : {E : Type 0} (text bytes : List ℕ) (plus : Bool) (r : Result ℕ E) (o : Option ℕ) → bytes ≡ text
    → plus ≡ (slice_index bytes 0 == 43) → plus ≡ false
    → ParsesUnsigned 64 10 bytes r → o ≡ result_ok r
    → o ≡ kept_if (is_between 0 (2 ^ 64)) (numeral_of text)
read_plain text bytes plus r o same is none parses answer =
    let other : slice_index bytes 0 ≢ 43 = eqb-false (slice_index bytes 0) 43 (sym is ∙ none) in
    answer ∙ by_answer bytes r (parse_plain model 64 bytes r parses other) ∙ ap (λ t. kept_if (is_between 0 (2 ^ 64)) (numeral_of t)) same

-- a number past 64 bits is past any lower bound too
pub none_below : (bound : ℕ) (number : Option ℕ) → bound ≤ 2 ^ 64 → kept_if (is_between 0 (2 ^ 64)) number ≡ None
    → kept_if (is_between 0 bound) number ≡ None
none_below bound (Some n) low none = grind (arith, nat_tests)
none_below bound None low none = refl
