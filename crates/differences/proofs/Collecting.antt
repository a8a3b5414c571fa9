-- Differences that are found one after another.
use Rattle.std.proofs.Common.{◌≡◌, ℕ, ◌+◌, ◌<◌, ◌≤◌, List, [], ◌∷◌, ◌++◌, length, max, take, Bool, true, false, refl, sym, ◌∙◌, ap, arith}
use Rattle.std.proofs.{Common.{append_assoc, length-append}, lemmas.{Bool.Decides.nat_tests, List.{append-nil, take-append-le, take_all}}}
use Rattle.std.specs.Result.{OnOk}
use Rattle.std.specs.Prelude.{Err, Ok, Result, ◌-◌, ◌^◌, if◌then◌else◌, nat_lt}
use Rattle.presentation.specs.Counting.{capped}
use Rattle.differences.specs.declared.{collected.Collected.Collected, deviation.Deviation.Deviation}
use Rattle.differences.specs.Collecting.{added, all_added, none_yet, noted, widened}

pub OnOk-wider : {P Q V E : Type 0} (r : Result V E) → (P → Q) → OnOk r P → OnOk r Q
OnOk-wider (Ok v) wider h = wider h
OnOk-wider (Err e) wider h = h

pub all_added_more : (c : Collected) (xs ys : List Deviation) → all_added (all_added c xs) ys ≡ all_added c (xs ++ ys)
all_added_more c [] ys = refl
all_added_more c (x ∷ xs) ys = all_added_more (added c x) xs ys

widened_first : (c : Collected) (n : ℕ) (xs : List Deviation) → all_added (widened c n) xs ≡ widened (all_added c xs) n
widened_first c n [] = refl
widened_first c n (x ∷ xs) = widened_first (added c x) n xs

pub noted_more : (c : Collected) (xs ys : List Deviation) (m n : ℕ) → noted (noted c xs m) ys n ≡ noted c (xs ++ ys) (max m n)
noted_more c xs ys m n = ap (λ d. widened d n) (widened_first (all_added c xs) m ys ∙ ap (λ d. widened d m) (all_added_more c xs ys))
    ∙ ap (λ g. record (all_added c (xs ++ ys)) { greatest = g }) (omega arith)

pub noted_none : (c : Collected) → noted c [] 0 ≡ c
noted_none c = ap (λ g. record c { greatest = g }) (omega arith)

-- without any ends
pub noted_only : (c : Collected) (xs : List Deviation) → all_added c xs ≡ noted c xs 0
noted_only c xs = sym (noted_none (all_added c xs))

pub noted_after : (c : Collected) (xs ys : List Deviation) (n : ℕ) → noted (all_added c xs) ys n ≡ noted c (xs ++ ys) n
noted_after c xs ys n = ap (λ d. widened d n) (all_added_more c xs ys)

-- ---- all of them

first_step : (most : ℕ) (first rest : List Deviation) (x : Deviation) (kept : Bool)
    → nat_lt (length first) most ≡ kept → length first ≤ most
    → (length (if kept then first ++ x ∷ [] else first) ≤ most)
    × (take most ((if kept then first ++ x ∷ [] else first) ++ rest) ≡ take most (first ++ x ∷ rest))
first_step most first rest x true is below =
    let more : length first < most = grind (arith, nat_tests) in
    (omega (arith, length-append first (x ∷ []), more), ap (take most) (append_assoc first (x ∷ []) rest))
first_step most first rest x false is below =
    let full : most ≤ length first = grind (arith, nat_tests) in
    (below, take-append-le most first rest full ∙ sym (take-append-le most first (x ∷ rest) full))

firsts : (c : Collected) (xs : List Deviation) → length c.first ≤ c.most → (all_added c xs).first ≡ take c.most (c.first ++ xs)
firsts c [] below = sym (take_all c.most (c.first ++ []) (omega (arith, length-append c.first [], below)) ∙ append-nil c.first)
firsts c (x ∷ xs) below = let step = first_step c.most c.first xs x (nat_lt (length c.first) c.most) refl below in
    firsts (added c x) xs step.0 ∙ step.1

counts : (c : Collected) (xs : List Deviation) → c.count ≤ 2 ^ 64 - 1 → (all_added c xs).count ≡ capped (c.count + length xs)
counts c [] below = omega (arith, below)
counts c (x ∷ xs) below = counts (added c x) xs (omega arith) ∙ omega arith

pub first_kept : (most : ℕ) (xs : List Deviation) → (all_added (none_yet most) xs).first ≡ take most xs
first_kept most xs = firsts (none_yet most) xs (omega arith)

pub all_counted : (most : ℕ) (xs : List Deviation) → (all_added (none_yet most) xs).count ≡ capped (length xs)
all_counted most xs = counts (none_yet most) xs (omega arith) ∙ omega arith

-- no ends are noted
pub same_greatest : (c : Collected) (xs : List Deviation) → (all_added c xs).greatest ≡ c.greatest
same_greatest c [] = refl
same_greatest c (x ∷ xs) = same_greatest (added c x) xs
