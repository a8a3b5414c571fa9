-- Lists of which the first ones pass a test and the others don't.
use Rattle.std.proofs.Common.{◌≡◌, ℕ, zero, suc, ◌+◌, ◌-◌, ◌<◌, ◌≤◌, ◌⊎◌, min, max, Bool, true, false, not, ◌&&◌, List, ◌∷◌, ◌++◌, length}
use Rattle.std.proofs.{Common.{take, drop, refl, ◌∙◌, sym, ap, subst, inl, inr, arith, []}, lemmas.List.Elements.{All-nil, All-cons}}
use Rattle.std.proofs.lemmas.List.{drop-drop, drop_all, take_all}
use Rattle.std.specs.Prelude.{slice_get, IsSome, All, filter}

-- the first k pass the test, and the others don't
abbrev pub SplitsAt : {X : Type 0} → (X → Bool) → ℕ → List X → Type 0
SplitsAt test zero [] = Unit {0}
SplitsAt test zero (x ∷ xs) = (test x ≡ false) × SplitsAt test zero xs
SplitsAt test (suc k) [] = ⊥
SplitsAt test (suc k) (x ∷ xs) = (test x ≡ true) × SplitsAt test k xs

pub splits_all : {X : Type 0} (test : X → Bool) → ((x : X) → test x ≡ true) → (xs : List X) → SplitsAt test (length xs) xs
splits_all test all [] = tt
splits_all test all (x ∷ xs) = (all x, splits_all test all xs)

pub splits_within : {X : Type 0} (test : X → Bool) (k : ℕ) (xs : List X) → SplitsAt test k xs → k ≤ length xs
splits_within test zero xs is = omega arith
splits_within test (suc k) [] is = absurd is
splits_within test (suc k) (x ∷ xs) is = omega (arith, splits_within test k xs is.1)

pub splits_before : {X : Type 0} (test : X → Bool) (k : ℕ) (xs : List X) → SplitsAt test k xs → All (λ x. test x ≡ true) (take k xs)
splits_before test zero xs is = All-nil (λ x. test x ≡ true)
splits_before test (suc k) [] is = absurd is
splits_before test (suc k) (x ∷ xs) is = All-cons (λ y. test y ≡ true) x (take k xs) is.0 (splits_before test k xs is.1)

pub splits_after : {X : Type 0} (test : X → Bool) (k : ℕ) (xs : List X) → SplitsAt test k xs → All (λ x. test x ≡ false) (drop k xs)
splits_after test zero [] is = All-nil (λ x. test x ≡ false)
splits_after test zero (x ∷ xs) is = All-cons (λ y. test y ≡ false) x xs is.0 (splits_after test zero xs is.1)
splits_after test (suc k) [] is = absurd is
splits_after test (suc k) (x ∷ xs) is = splits_after test k xs is.1

-- what passes the one test, and not the other
abbrev pub between : {X : Type 0} → (X → Bool) → (X → Bool) → X → Bool
between low high x = not (low x) && high x

nothing : {X : Type 0} (n k : ℕ) → [] ≡ take n (drop {A = X} k [])
nothing {X} zero k = refl
nothing {X} (suc n) zero = refl
nothing {X} (suc n) (suc k) = refl

taken : {X : Type 0} (m n : ℕ) (xs : List X) → m ≡ n → take m xs ≡ take n xs
taken m n xs same = ap (λ (k : ℕ). take k xs) same

-- the elements behind the first `l` and among the first `h`
filter-all : {X : Type 0} (low high : X → Bool) (l h : ℕ) (xs : List X) → SplitsAt low l xs → SplitsAt high h xs
    → filter (between low high) xs ≡ take (h - l) (drop l xs)
filter-all low high l h [] is_low is_high = nothing (h - l) l
filter-all low high zero zero (x ∷ xs) is_low is_high = rw (is_low.0, is_high.0) (filter-all low high zero zero xs is_low.1 is_high.1)
filter-all low high zero (suc h) (x ∷ xs) is_low is_high =
    let rest = filter-all low high zero h xs is_low.1 is_high.1 in
    rw (is_low.0, is_high.0) (cc (taken (h - 0) h xs (omega arith), taken (suc h) (suc h - 0) (x ∷ xs) (omega arith)))
filter-all low high (suc l) zero (x ∷ xs) is_low is_high =
    rw is_low.0 (filter-all low high l zero xs is_low.1 is_high.1 ∙ taken (0 - l) (0 - suc l) (drop l xs) (omega arith))
filter-all low high (suc l) (suc h) (x ∷ xs) is_low is_high =
    rw is_low.0 (filter-all low high l h xs is_low.1 is_high.1 ∙ taken (h - l) (suc h - suc l) (drop l xs) (omega arith))

pub splits_same : {X : Type 0} (test : X → Bool) (m n : ℕ) (xs : List X) → m ≡ n → SplitsAt test m xs → SplitsAt test n xs
splits_same test m n xs same is = subst (λ (k : ℕ). SplitsAt test k xs) same is

-- of the list's front, and of its rest
pub splits_front : {X : Type 0} (test : X → Bool) (k : ℕ) (xs ys : List X) → SplitsAt test k (xs ++ ys)
    → SplitsAt test (min k (length xs)) xs
splits_front test k [] ys is = splits_same test 0 (min k 0) [] (omega arith) tt
splits_front test zero (x ∷ xs) ys is = splits_same test 0 (min 0 (suc (length xs))) (x ∷ xs) (omega arith)
    (is.0, splits_same test (min 0 (length xs)) 0 xs (omega arith) (splits_front test zero xs ys is.1))
splits_front test (suc k) (x ∷ xs) ys is = splits_same test (suc (min k (length xs))) (min (suc k) (suc (length xs))) (x ∷ xs)
    (omega arith) (is.0, splits_front test k xs ys is.1)

pub splits_rest : {X : Type 0} (test : X → Bool) (k : ℕ) (xs ys : List X) → SplitsAt test k (xs ++ ys) → SplitsAt test (k - length xs) ys
splits_rest test k [] ys is = splits_same test k (k - 0) ys (omega arith) is
splits_rest test zero (x ∷ xs) ys is = splits_same test (0 - length xs) (0 - suc (length xs)) ys (omega arith)
    (splits_rest test zero xs ys is.1)
splits_rest test (suc k) (x ∷ xs) ys is = splits_same test (k - length xs) (suc k - suc (length xs)) ys (omega arith)
    (splits_rest test k xs ys is.1)

pub splits_drop : {X : Type 0} (test : X → Bool) (f k : ℕ) (xs : List X) → SplitsAt test k xs → SplitsAt test (k - f) (drop f xs)
splits_drop test zero k xs is = splits_same test k (k - 0) xs (omega arith) is
splits_drop test (suc f) zero [] is = splits_same test 0 (0 - suc f) [] (omega arith) is
splits_drop test (suc f) zero (x ∷ xs) is = splits_same test (0 - f) (0 - suc f) (drop f xs) (omega arith) (splits_drop test f zero xs is.1)
splits_drop test (suc f) (suc k) [] is = absurd is
splits_drop test (suc f) (suc k) (x ∷ xs) is = splits_same test (k - f) (suc k - suc f) (drop f xs) (omega arith)
    (splits_drop test f k xs is.1)

-- the same from a place on
pub filter-between : {X : Type 0} (low high : X → Bool) (l h f : ℕ) (xs : List X) → SplitsAt low l xs → SplitsAt high h xs →
    filter (between low high) (drop f xs) ≡ take (h - max f l) (drop (max f l) xs)
filter-between low high l h f xs is_low is_high =
    filter-all low high (l - f) (h - f) (drop f xs) (splits_drop low f l xs is_low) (splits_drop high f h xs is_high)
    ∙ ap (take (h - f - (l - f))) (drop-drop (l - f) f xs) ∙ taken (h - f - (l - f)) (h - max f l) (drop (f + (l - f)) xs) (omega arith)
    ∙ ap (λ (n : ℕ). take (h - max f l) (drop n xs)) (omega arith)

-- the first ones are no such elements
pub filter-before : {X : Type 0} (low high : X → Bool) (l : ℕ) (xs : List X) → SplitsAt low l xs
    → filter (between low high) (take l xs) ≡ []
filter-before low high zero xs is = refl
filter-before low high (suc l) [] is = absurd is
filter-before low high (suc l) (x ∷ xs) is = rw is.0 (filter-before low high l xs is.1)

-- the element behind them is the first one
pub first-between : {X : Type 0} (low high : X → Bool) (l h : ℕ) (xs : List X) → SplitsAt low l xs → SplitsAt high h xs → l < h →
    IsSome (slice_get (filter (between low high) (take 1 (drop l xs))) 0)
first-between low high l zero xs is_low is_high less = absurd (omega arith)
first-between low high zero (suc h) [] is_low is_high less = absurd is_high
first-between low high zero (suc h) (x ∷ xs) is_low is_high less = rw (is_low.0, is_high.0) refl
first-between low high (suc l) (suc h) [] is_low is_high less = absurd is_low
first-between low high (suc l) (suc h) (x ∷ xs) is_low is_high less = first-between low high l h xs is_low.1 is_high.1 (omega arith)

-- ---- a place that is that of the split, or behind the end where the split is the end

abbrev pub IsPlaceOf : {X : Type 0} → ℕ → ℕ → List X → Type 0
IsPlaceOf place k xs = (place ≡ k) ⊎ ((k ≡ length xs) × (length xs ≤ place))

pub take-place : {X : Type 0} (place k : ℕ) (xs : List X) → IsPlaceOf place k xs → take place xs ≡ take k xs
take-place place k xs is = elim is [
  | inl same ↦ taken place k xs same
  | inr past ↦ take_all place xs past.1 ∙ sym (take_all k xs (omega (arith, past.0)))
]

pub drop-place : {X : Type 0} (place k : ℕ) (xs : List X) → IsPlaceOf place k xs → drop place xs ≡ drop k xs
drop-place place k xs is = elim is [
  | inl same ↦ ap (λ (n : ℕ). drop n xs) same
  | inr past ↦ drop_all place xs past.1 ∙ sym (drop_all k xs (omega (arith, past.0)))
]
