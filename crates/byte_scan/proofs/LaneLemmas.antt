-- What comparisons of a vector with a splat answer in each lane, and how answers combine.
use Rattle.std.proofs.Common.{◌≡◌, ℕ, Bool, true, false, cond, not, ◌&&◌, ◌||◌, eqb, List, [], ◌∷◌, map, length, replicate, bit_and, bit_or}
use Rattle.std.proofs.{Common.{refl, sym, ap₂, subst, ◌∙◌, arith}, lemmas.Simd.{length-replicate, zip2_splat}}
use Rattle.std.specs.Simd.Lanes.{zip2, sel_l, top}
use Rattle.byte_scan.specs.Lanes.{flag, flags}

chosen : (b : Bool) → cond (top 7 (flag b)) 255 0 ≡ flag b
chosen true = refl
chosen false = refl

select_by_length : (t : ℕ → ℕ → Bool) (xs ys : List ℕ) → length xs ≡ length ys
    → sel_l (map (top 7) (zip2 (λ x y. flag (t x y)) xs ys)) (replicate (length xs) 255) (replicate (length xs) 0)
    ≡ zip2 (λ x y. flag (t x y)) xs ys
select_by_length t [] ys long = refl
select_by_length t (x ∷ xs) [] long = refl
select_by_length t (x ∷ xs) (y ∷ ys) long = ap₂ ◌∷◌ (chosen (t x y)) (select_by_length t xs ys (omega arith))

-- `select` of all ones and 0 by a comparison with a splat
pub select_compared : (t : ℕ → ℕ → Bool) (n : ℕ) (xs : List ℕ) (byte : ℕ) → length xs ≡ n
    → sel_l (map (top 7) (zip2 (λ x y. flag (t x y)) xs (replicate n byte))) (replicate n 255) (replicate n 0) ≡ flags (λ x. t x byte) xs
select_compared t n xs byte long =
    let splat = replicate n byte in
    subst (λ m. sel_l (map (top 7) (zip2 (λ x y. flag (t x y)) xs splat)) (replicate m 255) (replicate m 0)
    ≡ zip2 (λ x y. flag (t x y)) xs splat) long
    (select_by_length t xs splat (long ∙ sym (length-replicate n byte))) ∙ zip2_splat (λ x y. flag (t x y)) xs n byte long

-- equal answers make equal vectors
pub flags-same : (p q : ℕ → Bool) (xs : List ℕ) → ((x : ℕ) → p x ≡ q x) → flags p xs ≡ flags q xs
flags-same p q [] same = refl
flags-same p q (x ∷ xs) same = ap₂ (λ b rest. flag b ∷ rest) (same x) (flags-same p q xs same)

flag-and : (a b : Bool) → bit_and (flag a) (flag b) ≡ flag (a && b)
flag-and true true = refl
flag-and true false = refl
flag-and false b = refl

flag-or : (a b : Bool) → bit_or (flag a) (flag b) ≡ flag (a || b)
flag-or true true = refl
flag-or true false = refl
flag-or false true = refl
flag-or false false = refl

zip2-flags : (f : ℕ → ℕ → ℕ) (r : Bool → Bool → Bool) → ((a b : Bool) → f (flag a) (flag b) ≡ flag (r a b)) → (p q : ℕ → Bool) (xs : List ℕ)
    → zip2 f (flags p xs) (flags q xs) ≡ flags (λ x. r (p x) (q x)) xs
zip2-flags f r same p q [] = refl
zip2-flags f r same p q (x ∷ xs) = ap₂ ◌∷◌ (same (p x) (q x)) (zip2-flags f r same p q xs)

-- both answers
pub both : (p q : ℕ → Bool) (xs : List ℕ) {a b : List ℕ} → a ≡ flags p xs → b ≡ flags q xs → zip2 bit_and a b ≡ flags (λ x. p x && q x) xs
both p q xs e f = ap₂ (zip2 bit_and) e f ∙ zip2-flags bit_and ◌&&◌ flag-and p q xs

-- either answer
pub either : (p q : ℕ → Bool) (xs : List ℕ) {a b : List ℕ} → a ≡ flags p xs → b ≡ flags q xs → zip2 bit_or a b ≡ flags (λ x. p x || q x) xs
either p q xs e f = ap₂ (zip2 bit_or) e f ∙ zip2-flags bit_or ◌||◌ flag-or p q xs

is_yes : (b : Bool) → not (eqb (flag b) 0) ≡ b
is_yes true = refl
is_yes false = refl

-- the lanes that are not 0 are those that answered yes
pub yes_lanes : (p : ℕ → Bool) (xs : List ℕ) → map (λ lane. not (eqb lane 0)) (flags p xs) ≡ map p xs
yes_lanes p [] = refl
yes_lanes p (x ∷ xs) = ap₂ ◌∷◌ (is_yes (p x)) (yes_lanes p xs)
