-- Longest runs of neighbours, from the front on.
use Rattle.std.proofs.Common.{◌≡◌, ℕ, zero, suc, ◌+◌, Bool, true, false, List, [], ◌∷◌, ◌++◌, replicate, refl, ap, arith, inl, inr}
use Rattle.std.proofs.lemmas.Bool.{cases_Bool}
use Rattle.dash_writer.specs.Runs.{longest_runs, with_first}

module _ {X : Type 0} (alike : X → X → Bool) where
  -- the first run begins with the first member
  pub begins : (x : X) (runs : List (List X)) → (ys : List X) × (zs : List (List X)) × (with_first alike x runs ≡ (x ∷ ys) ∷ zs)
  begins x [] = ([], [], refl)
  begins x ([] ∷ runs) = ([], runs, refl)
  begins x ((y ∷ ys) ∷ runs) = elim (cases_Bool (alike x y)) [
    | inl is ↦ (y ∷ ys, runs, rw is refl)
    | inr isnt ↦ ([], (y ∷ ys) ∷ runs, rw isnt refl)
  ]

  pub apart : (x y : X) (ys : List X) → alike x y ≡ false → longest_runs alike (x ∷ y ∷ ys) ≡ (x ∷ []) ∷ longest_runs alike (y ∷ ys)
  apart x y ys isnt = let first = begins y (longest_runs alike ys) in
      rw first.2 (rw isnt refl)

  pub together : (x y : X) (ys run : List X) (runs : List (List X)) → alike x y ≡ true → longest_runs alike (y ∷ ys) ≡ (y ∷ run) ∷ runs
      → longest_runs alike (x ∷ y ∷ ys) ≡ (x ∷ y ∷ run) ∷ runs
  together x y ys run runs is first = rw first (rw is refl)

  -- a member that is like itself, so often, before one that isn't like it
  pub repeats_apart : (n : ℕ) (x y : X) (ys : List X) → alike x x ≡ true → alike x y ≡ false
      → longest_runs alike (x ∷ (replicate n x ++ (y ∷ ys))) ≡ (x ∷ replicate n x) ∷ longest_runs alike (y ∷ ys)
  repeats_apart zero x y ys same isnt = apart x y ys isnt
  repeats_apart (suc n) x y ys same isnt = together x x (replicate n x ++ (y ∷ ys)) (replicate n x) (longest_runs alike (y ∷ ys)) same
      (repeats_apart n x y ys same isnt)

  -- and before none
  pub repeats_alone : (n : ℕ) (x : X) → alike x x ≡ true → longest_runs alike (x ∷ (replicate n x ++ [])) ≡ (x ∷ replicate n x) ∷ []
  repeats_alone zero x same = refl
  repeats_alone (suc n) x same = together x x (replicate n x ++ []) (replicate n x) [] same (repeats_alone n x same)

one_behind : {X : Type 0} (n : ℕ) (x : X) (xs : List X) → replicate n x ++ (x ∷ xs) ≡ x ∷ (replicate n x ++ xs)
one_behind zero x xs = refl
one_behind (suc n) x xs = ap (λ t. x ∷ t) (one_behind n x xs)

pub replicate-more : {X : Type 0} (n : ℕ) (x : X) (xs : List X) → replicate n x ++ (x ∷ xs) ≡ replicate (n + 1) x ++ xs
replicate-more n x xs = let next : n + 1 ≡ suc n = omega arith in rw next (one_behind n x xs)
