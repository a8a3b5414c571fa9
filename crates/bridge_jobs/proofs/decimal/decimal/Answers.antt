use Rattle.bridge_jobs.proofs.decimal.decimal.Goals as goal
use Rattle.std.proofs.{Common.{◌≡◌, ◌≤◌, ◌∙◌, ℕ, true, List, Result, Ok, Err, length, arith, sym}, lemmas.Bool.Decides.nat_tests}
use Rattle.std.proofs.lemmas.Str.Parse.{IsNumeralModel, parse_digits, numerals_by_value, tells_all_ascii_digits}
use Rattle.std.specs.{List.list_all, Char.is_ascii_digit, Result.result_ok, Str.all_ascii_digits, Str.Parse.{ParsesUnsigned, digits_value}}
use Rattle.bridge_jobs.specs.Numbers.{decimal_of}
use Rattle.bridge_jobs.proofs.Ascii.{no_number}

model : IsNumeralModel (λ ds. all_ascii_digits ds ≡ true) (digits_value 10)
model = numerals_by_value _ tells_all_ascii_digits

parsed : {E : Type 0} (most : ℕ) (digits : List ℕ) (r : Result ℕ E) → list_all is_ascii_digit digits ≡ true → length digits ≤ most
    → ParsesUnsigned 32 10 digits r → result_ok r ≡ decimal_of most digits
parsed {E} most digits (Ok n) all short p =
    let r : Result ℕ E = Ok n in
    let inside = parse_digits model 32 digits r p all in grind (arith, nat_tests)
parsed most digits (Err e) all short p = let outside = parse_digits model 32 digits (Err e) p all in grind (arith, nat_tests)

pub returns-in_err-text : goal.returns-in_err-text
returns-in_err-text c = rw c.from_residual.ensures (sym (no_number c.args.most c.args.digits.now c.in_err-text.ensures))

pub returns : goal.returns
returns c =
    c.ok.ensures.value
    ∙ parsed c.args.most c.args.digits.now c.parse.result (sym c.if-not-are_digits.ensures) c.if-digits-most.false
    (rw c.in_ok-text.ensures at c.parse.ensures.value.0)
