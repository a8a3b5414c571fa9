-- The decimal places of a number: which are 0, and what they write.
use Rattle.std.proofs.Common.{◌≡◌, ℕ, zero, suc, ◌+◌, ◌*◌, ◌/◌, ◌%◌, ◌^◌, ◌<◌, ◌≤◌, ◌==◌, ◌&&◌, Bool, true, false, if◌then◌else◌, List, []}
use Rattle.std.proofs.{Common.{◌∷◌, ◌++◌, length, eq-eqb, ne_eqb, append-nil, append_assoc, refl, sym, ap, ◌∙◌, arith}, Math.Nat.pow-suc}
use Rattle.std.proofs.{Math.Nat.{mod-lt, mod-one}, lemmas.Nat.{div-add-mod', mod-mul-add, mul-add-lt}, lemmas.Bool.Decides.nat_tests}
use Rattle.std.proofs.{lemmas.Bool.false≢true, lemmas.Fmt.length-decimal-le}
use Rattle.std.specs.Fmt.{decimal}
use Rattle.exact_time.proofs.Decimals.{ten_pow-pos}
use Rattle.iso_time.specs.{Digits.padded_digits, Duration.{is_empty, without_zeros}}

-- one more place
mod-ten : (n p : ℕ) → 0 < p → n % (10 * p) ≡ (n / p % 10) * p + n % p
mod-ten n p h =
    let high = n / p / 10 in
    let digit = n / p % 10 in
    let quotient : n / p * p ≡ (high * 10 + digit) * p = ap (λ q. q * p) (sym (div-add-mod' (n / p) 10)) in
    let whole : n ≡ high * (10 * p) + (digit * p + n % p) = omega (arith, div-add-mod' n p, quotient) in
    let small : digit * p + n % p < 10 * p = omega (arith, mul-add-lt digit p (n % p) 10 (omega arith) (mod-lt n h)) in
    ap (λ x. x % (10 * p)) whole ∙ mod-mul-add high (10 * p) (digit * p + n % p) small

pub mod-places : (w n : ℕ) → n % 10 ^ suc w ≡ (n / 10 ^ w % 10) * 10 ^ w + n % 10 ^ w
mod-places w n =
    let next : 10 ^ suc w ≡ 10 * 10 ^ w = omega (arith, pow-suc 10 w) in
    rw next (mod-ten n (10 ^ w) (ten_pow-pos w))

is_empty-chosen : (b : Bool) (d : ℕ) (ds : List ℕ) → is_empty (if b then [] else (d ∷ ds)) ≡ b
is_empty-chosen true d ds = refl
is_empty-chosen false d ds = refl

both_zero : (d p r : ℕ) → 0 < p → ((48 + d == 48) && (r == 0)) ≡ (d * p + r == 0)
both_zero zero p r h = grind (arith, nat_tests)
both_zero (suc d) p zero h = let e : suc d * p + 0 ≡ p + d * p = omega arith in rw e (grind (arith, nat_tests))
both_zero (suc d) p (suc r) h = grind (arith, nat_tests)

-- the last places of a number are all 0 exactly where the power of ten divides it
pub is_empty-without_zeros : (w n : ℕ) → is_empty (without_zeros (padded_digits w n)) ≡ (n % 10 ^ w == 0)
unfolding padded_digits without_zeros
is_empty-without_zeros zero n = rw (mod-one n) refl
is_empty-without_zeros (suc w) n =
    is_empty-chosen _ _ _
    ∙ rw (is_empty-without_zeros w n, mod-places w n) (both_zero (n / 10 ^ w % 10) (10 ^ w) (n % 10 ^ w) (ten_pow-pos w))

nil_from_is_empty : (ds : List ℕ) → is_empty ds ≡ true → ds ≡ []
nil_from_is_empty [] h = refl
nil_from_is_empty (d ∷ ds) h = absurd (false≢true h)

-- no digits are left of zeros
pub without_zeros-none : (w n : ℕ) → n % 10 ^ w ≡ 0 → without_zeros (padded_digits w n) ≡ []
without_zeros-none w n h =
    nil_from_is_empty _ (is_empty-without_zeros w n ∙ eq-eqb _ _ h)

-- and otherwise the first one is
pub without_zeros-more : (k w n : ℕ) → k ≡ suc w → ¬ (n % 10 ^ k ≡ 0) → without_zeros (padded_digits k n)
    ≡ (48 + n / 10 ^ w % 10) ∷ without_zeros (padded_digits w n)
unfolding padded_digits without_zeros
without_zeros-more k w n e h =
    let some : is_empty (without_zeros (padded_digits (suc w) n)) ≡ false = is_empty-without_zeros (suc w) n ∙ ne_eqb _ _ (rw e at h) in
    let test : ((48 + n / 10 ^ w % 10 == 48) && is_empty (without_zeros (padded_digits w n))) ≡ false = sym (is_empty-chosen _ _ _)
    ∙ some in
    rw (e, test) refl

-- a text written so far, and what is left to write
pub written_end : (now left all : List ℕ) → left ≡ [] → now ++ left ≡ all → now ≡ all
written_end now left all e h = sym (append-nil now) ∙ ap (λ x. now ++ x) (sym e) ∙ h

pub written_more : (now next left rest all : List ℕ) (d : ℕ) → left ≡ d ∷ rest → now ++ left ≡ all → next ≡ now ++ d ∷ []
    → next ++ rest ≡ all
written_more now next left rest all d e h n = rw (n, append_assoc) (rw e at h)

-- the whole seconds of a duration have at most ten digits
pub seconds_short : (n : ℕ) → n < 10 ^ 19 → length (decimal (n / 1_000_000_000)) ≤ 10
seconds_short n h = length-decimal-le 10 (n / 1_000_000_000) (omega arith) (omega arith) (omega arith)
