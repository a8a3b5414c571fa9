-- Runs of decimal digits: the number so far, and the digits after a point.
use Rattle.std.proofs.Common.{◌≡◌, ℕ, zero, suc, ◌+◌, ◌-◌, ◌*◌, ◌^◌, ◌<◌, ◌≤◌, IsTrue, List, [], ◌∷◌, length, get_or, min, length-take}
use Rattle.std.proofs.{Common.{take, arith}, Math.Numerals.add-one, Math.Nat.{pow-suc, mul-lt-mul_of_pos_right}}
use Rattle.std.proofs.{lemmas.Bool.Decides.nat_tests, lemmas.Int.Digits.digits_value_more, lemmas.Nat.pow-add, lemmas.Str.digit_value_digit}
use Rattle.std.specs.{Str.all_ascii_digits, Str.Parse.digits_value}

-- a digit of a run
pub digit_at : (ds : List ℕ) (i : ℕ) → IsTrue (all_ascii_digits ds) → i < length ds → (48 ≤ get_or ds i 0) × (get_or ds i 0 ≤ 57)
digit_at [] i h lt = absurd (omega arith)
digit_at (d ∷ ds) zero h lt = grind (arith, nat_tests)
digit_at (d ∷ ds) (suc i) h lt = grind (arith, nat_tests, digit_at ds i)

-- one more digit
pub value_more : (ds : List ℕ) (i n : ℕ) → IsTrue (all_ascii_digits ds) → i < length ds → n ≡ digits_value 10 (take i ds) → n < 10 ^ i
    → (n * 10 + (get_or ds i 0 - 48) ≡ digits_value 10 (take (i + 1) ds)) × (n * 10 + (get_or ds i 0 - 48) < 10 ^ (i + 1))
value_more ds i n h lt value bound =
    let digit = digit_at ds i h lt in
    let worth = digit_value_digit (get_or ds i 0) digit in
    let more = digits_value_more 10 ds i lt in
    (omega arith, rw (add-one i) (omega (arith, pow-suc 10 i)))

pub ten_pow-pos : (k : ℕ) → 0 < 10 ^ k
ten_pow-pos zero = omega arith
ten_pow-pos (suc k) = omega (arith, pow-suc 10 k, ten_pow-pos k)

-- a number of m digits with k zeros behind them
pub shifted_below : (n m k total : ℕ) → m + k ≡ total → n < 10 ^ m → n * 10 ^ k < 10 ^ total
shifted_below n m k total e h =
    rw (← e, pow-add 10 m k) (mul-lt-mul_of_pos_right h (ten_pow-pos k))

-- the first nine digits, with a zero for each that lacks
pub leading_below : (ds : List ℕ) (m n place : ℕ) → m ≡ min (length ds) 9 → n < 10 ^ length (take m ds) → place ≡ 10 ^ (9 - m)
    → n * place < 1_000_000_000
leading_below ds m n place e bound p =
    let len : length (take m ds) ≡ m = omega (arith, length-take m ds) in
    rw p (shifted_below n m (9 - m) 9 (omega arith) (rw len at bound))
