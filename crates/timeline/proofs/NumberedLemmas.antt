-- Segments with their numbers.
use Rattle.std.proofs.Common.{◌≡◌, ℕ, zero, suc, ◌+◌, Bool, true, cond, List, ◌∷◌, length, take, drop, refl, ◌∙◌, sym, ap, arith, []}
use Rattle.std.specs.Prelude.{count_by}
use Rattle.std.proofs.lemmas.List.Sums.{sum_by-cons}
use Rattle.exact_time.specs.Time.{Time}
use Rattle.timeline.specs.Expansions.{Extent, Timing, numbered}
use Rattle.timeline.proofs.Splits.{SplitsAt}

-- numbered from a number that is equal
pub numbered-same : (m n : ℕ) (xs : List Extent) → m ≡ n → numbered m xs ≡ numbered n xs
numbered-same m n xs same = ap (λ (k : ℕ). numbered k xs) same

pub length-numbered : (first : ℕ) (xs : List Extent) → length (numbered first xs) ≡ length xs
length-numbered first [] = refl
length-numbered first (x ∷ xs) = ap suc (length-numbered (first + 1) xs)

pub drop-numbered : (k first : ℕ) (xs : List Extent) → drop k (numbered first xs) ≡ numbered (first + k) (drop k xs)
drop-numbered zero first xs = numbered-same first (first + 0) xs (omega arith)
drop-numbered (suc k) first [] = refl
drop-numbered (suc k) first (x ∷ xs) = drop-numbered k (first + 1) xs
    ∙ numbered-same (first + 1 + k) (first + suc k) (drop k xs) (omega arith)

pub take-numbered : (k first : ℕ) (xs : List Extent) → take k (numbered first xs) ≡ numbered first (take k xs)
take-numbered zero first xs = refl
take-numbered (suc k) first [] = refl
take-numbered (suc k) first (x ∷ xs) = ap (λ (ys : List Timing). record { start = x.start; end = x.end; number = first } ∷ ys)
    (take-numbered k (first + 1) xs)

pub splits-numbered : (test : Time → Bool) (k first : ℕ) (xs : List Extent) → SplitsAt (λ (x : Extent). test x.end) k xs
    → SplitsAt (λ (x : Timing). test x.end) k (numbered first xs)
splits-numbered test zero first [] is = tt
splits-numbered test zero first (x ∷ xs) is = (is.0, splits-numbered test zero (first + 1) xs is.1)
splits-numbered test (suc k) first [] is = absurd is
splits-numbered test (suc k) first (x ∷ xs) is = (is.0, splits-numbered test k (first + 1) xs is.1)

pub count-numbered : (test : Time → Bool) (first : ℕ) (xs : List Extent) → count_by (λ (x : Timing). test x.end) (numbered first xs)
    ≡ count_by (λ (x : Extent). test x.end) xs
count-numbered test first [] = refl
count-numbered test first (x ∷ xs) =
    sum_by-cons (λ (y : Timing). cond (test y.end) 1 0) (record { start = x.start; end = x.end; number = first }) (numbered (first + 1) xs)
    ∙ ap (λ (n : ℕ). cond (test x.end) 1 0 + n) (count-numbered test (first + 1) xs)
    ∙ sym (sum_by-cons (λ (y : Extent). cond (test y.end) 1 0) x xs)

pub count_all : (xs : List Extent) → count_by (λ (x : Extent). true) xs ≡ length xs
count_all [] = refl
count_all (x ∷ xs) = sum_by-cons (λ (y : Extent). cond true 1 0) x xs ∙ (let rest = count_all xs in omega arith)
