-- Texts with each `$` written twice.
use Rattle.std.proofs.Common.{◌≡◌, ℕ, suc, ◌+◌, ◌<◌, ◌≤◌, ◌/◌, ◌%◌, false, lit<, List, [], ◌∷◌, ◌++◌, length, get_or, codes}
use Rattle.std.proofs.{Common.{IsUtf8, arith, refl, ap, ◌∙◌}, lemmas.Bool.Decides.nat_tests, lemmas.List.Concat.flat_map-append}
use Rattle.std.proofs.{Common.{length-take}, lemmas.List.get_or-take}
use Rattle.std.proofs.lemmas.List.Sums.{fails_before_first, passes_at_first, split_at_first}
use Rattle.std.proofs.lemmas.Str.{IsCharBoundary-after_ascii, IsUtf8-drop}
use Rattle.std.proofs.lemmas.Fmt.{decimal_digit, decimal_step}
use Rattle.std.specs.{Prelude.decimal, List.{after_first, before_first, position_or_len}}
use Rattle.template_ids.specs.Templates.{is_dollar}
use Rattle.segment_forms.specs.Media.{doubled}

-- a text without a `$`
plain : (text : List ℕ) → ((k : ℕ) → k < length text → is_dollar (get_or text k 0) ≡ false) → doubled text ≡ text
plain [] none = refl
plain (b ∷ text) none = rw (none 0 (omega arith)) (ap (λ xs. b ∷ xs) (plain text (λ k below. none (suc k) (omega arith))))

pub doubled_last : (text : List ℕ) → position_or_len is_dollar text ≡ length text → doubled text ≡ text
doubled_last text last = plain text (λ k below. fails_before_first is_dollar text k 0 (omega arith))

-- what `split_once` says where there is a `$`
pub record IsCut (text front back : List ℕ) : Type 0 where
  pub at : position_or_len is_dollar text < length text
  pub front_is : front ≡ before_first is_dollar text
  pub back_is : back ≡ after_first is_dollar text

module _ (text front back : List ℕ) (cut : IsCut text front back) where
  dollar : get_or text (position_or_len is_dollar text) 0 ≡ 36
  dollar = let here = passes_at_first is_dollar text 0 cut.at in grind (arith, nat_tests)

  front_plain : doubled (before_first is_dollar text) ≡ before_first is_dollar text
  front_plain = plain (before_first is_dollar text) (λ k below.
      let short = rw (length-take (position_or_len is_dollar text) text) at below in
      let early : k < position_or_len is_dollar text = omega arith in
      rw (get_or-take (position_or_len is_dollar text) text k 0 early) (fails_before_first is_dollar text k 0 early))

  pub doubled_cut : doubled text ≡ front ++ (codes "$$" ++ doubled back)
  doubled_cut = let whole = split_at_first is_dollar text 0 cut.at in
      ap doubled (whole ∙ ap (λ b. before_first is_dollar text ++ (b ∷ after_first is_dollar text)) dollar)
      ∙ flat_map-append _ (before_first is_dollar text) (36 ∷ after_first is_dollar text)
      ∙ rw (front_plain, cut.front_is, cut.back_is) refl

  pub rest_utf8 : IsUtf8 text → IsUtf8 back
  rest_utf8 utf8 = let low : get_or text (position_or_len is_dollar text) 0 < 128 = rw dollar (lit< tt) in
      rw cut.back_is (IsUtf8-drop text (position_or_len is_dollar text + 1) utf8
      (IsCharBoundary-after_ascii text (position_or_len is_dollar text) utf8 cut.at low))

-- a number of two digits
pub decimal_two : (w : ℕ) → 10 ≤ w → w ≤ 20 → decimal w ≡ decimal (w / 10) ++ decimal (w % 10)
decimal_two w high low = let last : w % 10 < 10 = omega arith in
    rw (decimal_step w high (omega arith), decimal_digit (w % 10) last) refl
