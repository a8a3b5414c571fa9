-- What is related place by place: what a loop has behind it to what it has before it, and members at one place.
use Rattle.std.proofs.Common.{◌≡◌, ℕ, zero, suc, ◌+◌, List, [], ◌∷◌, ◌++◌, drop, Option, Some, None, refl, sym, ◌∙◌, ap}
use Rattle.std.proofs.Common.{subst, append_assoc}
use Rattle.std.specs.{Prelude.{MatchOption, option_and_then, slice_get}, Option.option_copied, Borrow.Bor}
use Rattle.meaning.specs.Same.{Pairwise}

module _ {X Y : Type 0} (R : X → Y → Type 0) where
  pub one_more : (xs : List X) (k : ℕ) (x : X) (y : Y) (old new : List Y) → drop k xs ≡ x ∷ drop (k + 1) xs → R x y
      → new ≡ old ++ y ∷ [] → ((later : List Y) → Pairwise R (drop k xs) later → Pairwise R xs (old ++ later))
      → (later : List Y) → Pairwise R (drop (k + 1) xs) later → Pairwise R xs (new ++ later)
  one_more xs k x y old new at is pushed so_far later are =
      rw (pushed, append_assoc old (y ∷ []) later) (so_far (y ∷ later) (rw at (is, are)))

  abbrev IsRelated : Option X → Y → Type 0
  IsRelated o y = (x : X) × (o ≡ Some x) × R x y

  related : (xs : List X) (ys : List Y) (k : ℕ) → Pairwise R xs ys
      → MatchOption (slice_get ys k) (slice_get xs k ≡ None) (IsRelated (slice_get xs k))
  related [] [] k are = refl
  related [] (b ∷ ys) k are = absurd are
  related (a ∷ xs) [] k are = absurd are
  related (a ∷ xs) (b ∷ ys) zero are = (a, refl, are.0)
  related (a ∷ xs) (b ∷ ys) (suc k) are = related xs ys k are.1

  pub looked_up : (xs : List X) (ys : List Y) (key : Option ℕ) (k : ℕ) (found : Option (Bor Y)) → key ≡ Some k
      → option_copied found ≡ slice_get ys k → Pairwise R xs ys
      → MatchOption found (option_and_then (slice_get xs) key ≡ None) (λ y. IsRelated (option_and_then (slice_get xs) key) y.now)
  looked_up xs ys key k None is at are =
      ap (option_and_then (slice_get xs)) is
      ∙ subst (λ o. MatchOption o (slice_get xs k ≡ None) (IsRelated (slice_get xs k))) (sym at) (related xs ys k are)
  looked_up xs ys key k (Some y) is at are =
      let one = subst (λ o. MatchOption o (slice_get xs k ≡ None) (IsRelated (slice_get xs k))) (sym at) (related xs ys k are) in
      (one.0, ap (option_and_then (slice_get xs)) is ∙ one.1, one.2)
