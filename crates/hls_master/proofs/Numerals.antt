-- Digits as `parse` reads them.
use Rattle.std.proofs.Common.{◌≡◌, ℕ, ◌^◌, true, List, Result, Ok, Err, arith}
use Rattle.std.proofs.{lemmas.Bool.Decides.nat_tests, lemmas.Str.Parse.{IsNumeralModel, parse_digits, numerals_by_value}}
use Rattle.std.proofs.lemmas.Str.Parse.{tells_all_ascii_digits}
use Rattle.std.specs.{List.list_all, Char.is_ascii_digit, Result.result_ok, Str.all_ascii_digits, Str.Parse.{ParsesUnsigned, digits_value}}
use Rattle.mpd_values.specs.Numbers.{numeral_of, kept_if, is_between}

model : IsNumeralModel (λ ds. all_ascii_digits ds ≡ true) (digits_value 10)
model = numerals_by_value _ tells_all_ascii_digits

pub parsed_is : (E : Type 0) (digits : List ℕ) (r : Result ℕ E) → list_all is_ascii_digit digits ≡ true → ParsesUnsigned 64 10 digits r
    → result_ok r ≡ kept_if (is_between 0 (2 ^ 64)) (numeral_of digits)
parsed_is E digits (Ok n) all parsed = let inside = parse_digits model {E = E} 64 digits (Ok n) parsed all in grind (arith, nat_tests)
parsed_is E digits (Err e) all refused = let outside = parse_digits model {E = E} 64 digits (Err e) refused all in grind (arith, nat_tests)
