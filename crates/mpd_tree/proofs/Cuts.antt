-- Runs of bytes, and what ends them.
use Rattle.std.proofs.Common.{◌≡◌, ℕ, suc, ◌+◌, Bool, true, false, not, ltb, List, [], ◌∷◌, ◌++◌, length, take, drop, refl, ◌∙◌, arith}
use Rattle.std.proofs.{Common.{inl, inr}, lemmas.Bool.{cases_Bool, ltb-false, false≢true}, lemmas.List.{take_at, drop_at}}
use Rattle.std.proofs.lemmas.List.Sums.{prefix_len-le-length}
use Rattle.std.specs.List.{position_or_len, list_all}
use Rattle.mpd_tree.specs.Runs.{up_to}

-- nothing, or a byte that ends the run
abbrev pub Stops : (ℕ → Bool) → List ℕ → Type 0
Stops ends [] = Unit {0}
Stops ends (b ∷ bs) = ends b ≡ true

pub up_to_is : (ends : ℕ → Bool) (bytes : List ℕ) → up_to ends bytes ≡ position_or_len ends bytes
up_to_is ends bytes = elim (cases_Bool (ltb (position_or_len ends bytes) (length bytes))) [
  | inl less ↦ rw less refl
  | inr most ↦ let e : length bytes ≡ position_or_len ends bytes = omega (
    arith,
    ltb-false _ _ most,
    prefix_len-le-length (λ b. not (ends b)) bytes,
  ) in rw most e
]

run_first : (ends : ℕ → Bool) (run rest : List ℕ) → list_all (λ b. not (ends b)) run ≡ true → Stops ends rest
    → position_or_len ends (run ++ rest) ≡ length run
run_first ends [] [] h s = refl
run_first ends [] (b ∷ bs) h s = rw s refl
run_first ends (c ∷ cs) rest h s = elim (cases_Bool (ends c)) [
  | inl t ↦ let never : false ≡ true = rw t at h in absurd (false≢true never)
  | inr f ↦ let more : list_all (λ b. not (ends b)) cs ≡ true = rw f at h in rw f (omega (arith, run_first ends cs rest more s))
]

-- a run is cut where it ends
pub run_again : (ends : ℕ → Bool) (run rest : List ℕ) → list_all (λ b. not (ends b)) run ≡ true → Stops ends rest
    → (take (up_to ends (run ++ rest)) (run ++ rest) ≡ run) × (drop (up_to ends (run ++ rest)) (run ++ rest) ≡ rest)
run_again ends run rest h s =
    let e : up_to ends (run ++ rest) ≡ length run = up_to_is ends (run ++ rest) ∙ run_first ends run rest h s in
    (rw e (take_at run rest (length run) refl), rw e (drop_at run rest (length run) refl))

passes : (ends : ℕ → Bool) (bytes : List ℕ) → list_all (λ b. not (ends b)) (take (position_or_len ends bytes) bytes) ≡ true
passes ends [] = refl
passes ends (c ∷ cs) = elim (cases_Bool (ends c)) [
  | inl t ↦ rw t refl
  | inr f ↦ let k : 1 + position_or_len ends cs ≡ suc (position_or_len ends cs) = omega arith in rw (f, k, f) (passes ends cs)
]

-- what stands before the cut passes
pub run_passes : (ends : ℕ → Bool) (bytes : List ℕ) → list_all (λ b. not (ends b)) (take (up_to ends bytes) bytes) ≡ true
run_passes ends bytes = rw (up_to_is ends bytes) (passes ends bytes)

stops : (ends : ℕ → Bool) (bytes : List ℕ) → Stops ends (drop (position_or_len ends bytes) bytes)
stops ends [] = tt
stops ends (c ∷ cs) = elim (cases_Bool (ends c)) [
  | inl t ↦ rw t t
  | inr f ↦ let k : 1 + position_or_len ends cs ≡ suc (position_or_len ends cs) = omega arith in rw (f, k) (stops ends cs)
]

-- and what stands behind it begins with what ends the run
pub run_stops : (ends : ℕ → Bool) (bytes : List ℕ) → Stops ends (drop (up_to ends bytes) bytes)
run_stops ends bytes = rw (up_to_is ends bytes) (stops ends bytes)
