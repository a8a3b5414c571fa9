use Rattle.publish_core.proofs.words.decimal.Goals as goal
use Rattle.std.proofs.{Common.{◌≡◌, ◌≤◌, ◌∙◌, ℕ, true, List, Result, Ok, Err, length, ap, arith, sym}, lemmas.Bool.Decides.nat_tests}
use Rattle.std.proofs.lemmas.Str.Parse.{IsNumeralModel, parse_digits, numerals_by_value, tells_all_ascii_digits}
use Rattle.std.specs.{List.list_all, Char.is_ascii_digit, Result.result_ok, Str.all_ascii_digits, Str.Parse.{ParsesUnsigned, digits_value}}
use Rattle.bridge_jobs.specs.Numbers.{decimal_of}

model : IsNumeralModel (λ ds. all_ascii_digits ds ≡ true) (digits_value 10)
model = numerals_by_value _ tells_all_ascii_digits

parsed : {E : Type 0} (digits : List ℕ) (r : Result ℕ E) → list_all is_ascii_digit digits ≡ true → length digits ≤ 10
    → ParsesUnsigned 32 10 digits r → result_ok r ≡ decimal_of 10 digits
parsed {E} digits (Ok n) all short p =
    let r : Result ℕ E = Ok n in
    let inside = parse_digits model 32 digits r p all in grind (arith, nat_tests)
parsed digits (Err e) all short p = let outside = parse_digits model 32 digits (Err e) p all in grind (arith, nat_tests)

pub returns : goal.returns
returns c =
    let same = c.as_bytes-digits.ensures.value in
    c.ok.ensures.value
    ∙ parsed c.args.text.now c.parse.result (sym (c.if-not-are_digits.ensures ∙ ap (list_all is_ascii_digit) same))
    (omega (arith, ap length same)) c.parse.ensures.value.0
