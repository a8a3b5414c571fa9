-- Neighbours that are alike.
use Rattle.std.specs.Prelude.{Bool, List, [], ◌∷◌, if◌then◌else◌}

-- a member before some runs: it is in the first of them where it is like that run's first member, otherwise in one of its own
abbrev pub with_first : {X : Type 0} → (X → X → Bool) → X → List (List X) → List (List X)
with_first alike x [] = (x ∷ []) ∷ []
with_first alike x ([] ∷ runs) = (x ∷ []) ∷ runs
with_first alike x ((y ∷ ys) ∷ runs) = if alike x y then (x ∷ y ∷ ys) ∷ runs else (x ∷ []) ∷ (y ∷ ys) ∷ runs

-- the longest runs of neighbours where each one is like the next, in order
abbrev pub longest_runs : {X : Type 0} → (X → X → Bool) → List X → List (List X)
longest_runs alike [] = []
longest_runs alike (x ∷ xs) = with_first alike x (longest_runs alike xs)
