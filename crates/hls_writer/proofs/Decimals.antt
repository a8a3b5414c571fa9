-- The last decimal digits of a number.
use Rattle.std.proofs.Common.{◌≡◌, ℕ, zero, suc, ◌+◌, ◌-◌, List, ◌++◌, length, length-append, take, drop, refl, ap, arith}
use Rattle.std.proofs.lemmas.List.{drop-append-le, take_all}
use Rattle.iso_time.specs.Digits.{padded_digits}

length-padded_digits : (width n : ℕ) → length (padded_digits width n) ≡ width
unfolding padded_digits
length-padded_digits zero n = refl
length-padded_digits (suc width) n = ap suc (length-padded_digits width n)

drop-padded_digits : (k width all n : ℕ) → all ≡ k + width → drop k (padded_digits all n) ≡ padded_digits width n
unfolding padded_digits
drop-padded_digits zero width all n same = let is : all ≡ width = omega arith in rw is refl
drop-padded_digits (suc k) width zero n same = absurd (omega arith)
drop-padded_digits (suc k) width (suc all) n same = drop-padded_digits k width all n (omega arith)

-- the last of nine digits
pub last_digits : (width before n : ℕ) → before + width ≡ 9 → take (9 - before) (drop before (padded_digits 9 n)) ≡ padded_digits width n
last_digits width before n nine =
    let all : 9 ≡ before + width = omega arith in
    rw (drop-padded_digits before width 9 n all) (take_all (9 - before) (padded_digits width n)
    (omega (arith, length-padded_digits width n)))

-- and what stands behind them
pub last_ended : (width before n : ℕ) (end : List ℕ) → before + width ≡ 9
    → take (9 + length end - before) (drop before (padded_digits 9 n ++ end)) ≡ padded_digits width n ++ end
last_ended width before n end nine =
    let all : 9 ≡ before + width = omega arith in let nine_long = length-padded_digits 9 n in
    let behind = drop-append-le before (padded_digits 9 n) end (omega (arith, nine_long)) in
    rw (behind, drop-padded_digits before width 9 n all) (take_all (9 + length end - before) (padded_digits width n ++ end)
    (omega (arith, length-padded_digits width n, length-append (padded_digits width n) end)))
