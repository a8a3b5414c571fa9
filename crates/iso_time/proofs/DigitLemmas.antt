-- Runs of digits: what they are worth at most, and the reader of a run.
use Rattle.std.proofs.Common.{◌≡◌, ℕ, zero, suc, ◌+◌, ◌-◌, ◌^◌, ◌<◌, Bool, true, false, IsTrue, List, [], ◌∷◌, length, length-take, take}
use Rattle.std.proofs.{Common.{drop, refl, arith}, Math.Numerals.one-add, lemmas.Int.Digits.digits_value-lt, lemmas.Str.digit_value_digit}
use Rattle.std.proofs.lemmas.Bool.{and_parts, and_from}
use Rattle.std.specs.{List.prefix_len, Char.is_ascii_digit, Str.Parse.AllDigits, Str.all_ascii_digits}
use Rattle.exact_time.proofs.Decimals.{digit_at, shifted_below}
use Rattle.iso_time.specs.Digits.{number_of, fraction_nanos}

pub by_bool : {A : Type 0} (b : Bool) → (b ≡ true → A) → (b ≡ false → A) → A
by_bool true at_true at_false = at_true refl
by_bool false at_true at_false = at_false refl

-- the digits that a text begins with are digits
pub ascii_front : (text : List ℕ) → IsTrue (all_ascii_digits (take (prefix_len is_ascii_digit text) text))
ascii_front [] = refl
ascii_front (c ∷ text) =
    by_bool (is_ascii_digit c) (λ digit. rw (digit, one-add, digit) (ascii_front text)) (λ other. rw other refl)

-- a number of so many digits
AllDigits-ascii : (ds : List ℕ) → IsTrue (all_ascii_digits ds) → AllDigits 10 ds
AllDigits-ascii [] h = tt
AllDigits-ascii (d ∷ ds) h =
    let parts = and_parts (is_ascii_digit d) (all_ascii_digits ds) h in
    let digit = digit_at (d ∷ ds) 0 h (omega arith) in
    (omega (arith, digit_value_digit d digit, digit.1), AllDigits-ascii ds parts.1)

pub number_of-lt : (ds : List ℕ) → IsTrue (all_ascii_digits ds) → number_of ds < 10 ^ length ds
number_of-lt ds h = digits_value-lt 10 ds (AllDigits-ascii ds h)

ascii_take : (n : ℕ) (ds : List ℕ) → IsTrue (all_ascii_digits ds) → IsTrue (all_ascii_digits (take n ds))
ascii_take zero ds h = refl
ascii_take (suc n) [] h = refl
ascii_take (suc n) (d ∷ ds) h =
    let parts = and_parts (is_ascii_digit d) (all_ascii_digits ds) h in
    and_from _ _ parts.0 (ascii_take n ds parts.1)

pub ascii_drop : (n : ℕ) (ds : List ℕ) → IsTrue (all_ascii_digits ds) → IsTrue (all_ascii_digits (drop n ds))
ascii_drop zero ds h = h
ascii_drop (suc n) [] h = refl
ascii_drop (suc n) (d ∷ ds) h = ascii_drop n ds (and_parts (is_ascii_digit d) (all_ascii_digits ds) h).1

pub fraction_nanos-lt : (ds : List ℕ) → IsTrue (all_ascii_digits ds) → fraction_nanos ds < 10 ^ 9
fraction_nanos-lt ds h =
    let size = length (take 9 ds) in
    let short : size + (9 - length ds) ≡ 9 = omega (arith, length-take 9 ds) in
    shifted_below (number_of (take 9 ds)) size (9 - length ds) 9 short (number_of-lt (take 9 ds) (ascii_take 9 ds h))
