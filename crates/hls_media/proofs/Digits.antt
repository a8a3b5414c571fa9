-- Numbers of few digits, and of too many.
use Rattle.std.proofs.Common.{◌≡◌, ℕ, ◌^◌, ◌<◌, ◌≤◌, true, List, length, nat_lt, refl, arith, Result, Ok, Err, None, Some}
use Rattle.std.proofs.{lemmas.Bool.Decides.nat_tests, lemmas.Bool.and_parts, lemmas.Str.Parse.{IsNumeralModel, parse_digits}}
use Rattle.std.proofs.{lemmas.Str.Parse.{numerals_by_value, tells_all_ascii_digits}, Math.Nat.pow-le-pow_right}
use Rattle.std.specs.{Result.result_ok, Str.all_ascii_digits, Str.Parse.{ParsesUnsigned, digits_value}}
use Rattle.hls_media.specs.Values.{is_number, number_of, below}

-- as many digits as twenty write a number below 10^20
pub twenty_digits : (n size : ℕ) → n < 10 ^ size → size ≤ 20 → n < 10 ^ 20
twenty_digits n size bound few = omega (arith, pow-le-pow_right {n = 10} (omega arith) few)

model : IsNumeralModel (λ ds. all_ascii_digits ds ≡ true) (digits_value 10)
model = numerals_by_value _ tells_all_ascii_digits

-- digits that can't be parsed have no value below 2^64
outside : {E : Type 0} (digits : List ℕ) (r : Result ℕ E) (bound : ℕ) → bound ≤ 2 ^ 63 → 0 < length digits → all_ascii_digits digits ≡ true
    → ParsesUnsigned 64 10 digits r → None ≡ result_ok r → None ≡ below bound (Some (digits_value 10 digits))
outside digits (Ok n) bound low some all parsed none = cc
outside digits (Err e) bound low some all refused none = let large = parse_digits model 64 digits (Err e) refused all in
    grind (arith, nat_tests)

number_is : (digits : List ℕ) → is_number digits ≡ true → number_of digits ≡ Some (digits_value 10 digits)
unfolding number_of
number_is digits is = rw is refl

pub no_number : {E : Type 0} (digits : List ℕ) (r : Result ℕ E) (bound : ℕ) → bound ≤ 2 ^ 63 → is_number digits ≡ true
    → ParsesUnsigned 64 10 digits r → None ≡ result_ok r → None ≡ below bound (number_of digits)
no_number digits r bound low is parsed none =
    let parts = and_parts (all_ascii_digits digits) (nat_lt 0 (length digits)) is in
    let some : 0 < length digits = grind (arith, nat_tests, parts.1) in
    rw (number_is digits is) (outside digits r bound low some parts.0 parsed none)
