-- A list that is built of those members of another one that pass a test.
use Rattle.std.proofs.Common.{◌≡◌, Bool, true, false, List, [], ◌∷◌, ◌++◌, All, map, filter, append_assoc, ◌∙◌, suc, inl, inr, arith}
use Rattle.std.proofs.lemmas.Bool.{cases_Bool}

module _ {X Y : Type 0} (test : X → Bool) (show : X → Y) where
  pub one_passes : (done : List Y) (x : X) (rest : List X) (all : List Y) → test x ≡ true → done ++ map show (filter test (x ∷ rest)) ≡ all
      → (done ++ show x ∷ []) ++ map show (filter test rest) ≡ all
  one_passes done x rest all passes so_far = append_assoc done (show x ∷ []) (map show (filter test rest)) ∙ rw passes at so_far

  pub one_fails : (done : List Y) (x : X) (rest : List X) (all : List Y) → test x ≡ false → done ++ map show (filter test (x ∷ rest)) ≡ all
      → done ++ map show (filter test rest) ≡ all
  one_fails done x rest all fails so_far = rw fails at so_far

module _ {X : Type 0} (Holds : X → Type 0) where
  pub all_first : (x : X) (rest : List X) → All Holds (x ∷ rest) → Holds x
  all_first x rest all = all 0 x (omega arith)

  pub all_behind : (x : X) (rest : List X) → All Holds (x ∷ rest) → All Holds rest
  all_behind x rest all = λ k d below. all (suc k) d (omega arith)

  pub first_holds : (test : X → Bool) (x : X) (rest : List X) → test x ≡ true → All Holds (filter test (x ∷ rest)) → Holds x
  first_holds test x rest passes all = all_first x (filter test rest) (rw passes at all)

  pub rest_holds : (test : X → Bool) (x : X) (rest : List X) → All Holds (filter test (x ∷ rest)) → All Holds (filter test rest)
  rest_holds test x rest all = elim (cases_Bool (test x)) [
    | inl passes ↦ all_behind x (filter test rest) (rw passes at all)
    | inr fails ↦ rw fails at all
  ]
