use Rattle.url_parts.proofs.range.read_place.Goals as goal
use Rattle.std.proofs.{Common.{◌≡◌, ℕ, true, List, Result, Ok, Err, None, arith, sym}, lemmas.Bool.Decides.nat_tests}
use Rattle.std.proofs.lemmas.Str.Parse.{IsNumeralModel, parse_digits, numerals_by_value, tells_all_ascii_digits}
use Rattle.std.specs.{List.list_all, Char.is_ascii_digit, Result.result_ok, Str.all_ascii_digits, Str.Parse.{ParsesUnsigned, digits_value}}
use Rattle.url_parts.specs.Ranges.{place_of}

model : IsNumeralModel (λ ds. all_ascii_digits ds ≡ true) (digits_value 10)
model = numerals_by_value _ tells_all_ascii_digits

-- digits that `parse` refuses have no value below 2^64
no_place : {E : Type 0} (digits : List ℕ) (r : Result ℕ E) → list_all is_ascii_digit digits ≡ true → ParsesUnsigned 64 10 digits r
    → None ≡ result_ok r → None ≡ place_of digits
no_place digits (Ok n) all parsed none = cc
no_place digits (Err e) all refused none = let outside = parse_digits model 64 digits (Err e) refused all in grind (arith, nat_tests)

pub returns-in_err-place : goal.returns-in_err-place
returns-in_err-place c = rw c.from_residual.ensures
    (no_place c.args.digits.now _ (sym c.if-not-is_all_digits.ensures) c.parse.ensures.value.0 c.in_err-place.ensures.value)
