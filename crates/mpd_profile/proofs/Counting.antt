-- Numbers of few digits.
use Rattle.std.proofs.Common.{◌≡◌, ℕ, ◌-◌, ◌<◌, ◌&&◌, zero, suc, Bool, true, false, List, [], ◌∷◌, length, refl, sym, arith}
use Rattle.std.proofs.{lemmas.Bool.Decides.nat_tests, lemmas.List.take_all, lemmas.List.Sums.{prefix_len_is, suffix_len_is}}
use Rattle.std.proofs.lemmas.Str.Parse.{IsNumeralModel, digits_value_short, numerals_by_value, tells_all_ascii_digits}
use Rattle.std.specs.{Prelude.{get_or, is_some}, Str.all_ascii_digits, Str.Parse.digits_value, Char.is_ascii_digit, List.list_all}
use Rattle.std.specs.List.{suffix_len}
use Rattle.mpd_values.specs.{declared.blank.Blank.TheVariants.Space, Blanks.{is_blank, trimmed}, Numbers.{is_between, kept_if}}
use Rattle.mpd_values.specs.Numbers.{number_between, number_of, numeral_of}
use Rattle.mpd_profile.specs.Values.{are_few_digits, has_room}

model : IsNumeralModel (λ ds. all_ascii_digits ds ≡ true) (digits_value 10)
model = numerals_by_value _ tells_all_ascii_digits

pub both : (a b : Bool) → (a && b) ≡ true → (a ≡ true) × (b ≡ true)
both true b is = (refl, is)
both false b none = absurd (cc)

pub few_kept : (least bound : ℕ) (digits : List ℕ) → has_room least bound ≡ true → are_few_digits digits ≡ true
    → is_some (kept_if (is_between least bound) (numeral_of digits)) ≡ true
few_kept least bound digits room few =
    let parts = both (all_ascii_digits digits) _ few in
    let small = digits_value_short model digits 18 parts.0 (grind (arith, nat_tests)) in
    grind (arith, nat_tests)

-- nothing is dropped around digits
no_blank : (text : List ℕ) (k : ℕ) → list_all is_ascii_digit text ≡ true → k < length text → is_blank Space (get_or text k 48) ≡ false
no_blank [] k digits below = absurd (omega arith)
no_blank (b ∷ bs) zero digits below = let here = both (is_ascii_digit b) (list_all is_ascii_digit bs) digits in grind (arith, nat_tests)
no_blank (b ∷ bs) (suc k) digits below = no_blank bs k (both (is_ascii_digit b) (list_all is_ascii_digit bs) digits).1 (omega arith)

pub untrimmed : (text : List ℕ) → list_all is_ascii_digit text ≡ true → trimmed Space text ≡ text
unfolding trimmed
untrimmed text digits =
    let ends : length text - suffix_len (is_blank Space) text ≡ length text =
    let none = suffix_len_is (is_blank Space) text (length text) 48 (omega arith) (λ k from to. absurd (omega arith))
    (λ some. no_blank text (length text - 1) digits (omega arith)) in omega arith in
    let begins = prefix_len_is (is_blank Space) text 0 48 (omega arith) (λ k below. absurd (omega arith))
    (λ some. no_blank text 0 digits some) in
    rw (ends, take_all (length text) text (omega arith), begins) refl

pub few_are_numbers : (least bound : ℕ) (text : List ℕ) → has_room least bound ≡ true → are_few_digits text ≡ true
    → true ≡ is_some (number_between least bound text)
unfolding number_of
few_are_numbers least bound text room few = rw (untrimmed text (both (list_all is_ascii_digit text) _ few).0)
    (sym (few_kept least bound text room few))
