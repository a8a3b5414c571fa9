-- Texts that are added part by part.
use Rattle.std.proofs.Common.{◌≡◌, ℕ, ◌+◌, ◌<◌, List, [], ◌∷◌, ◌++◌, length, drop, get_or, Result, Ok, Err, IsErrAnd, suc, refl, sym, ap}
use Rattle.std.proofs.{Common.{◌∙◌, add-one, drop-cons}, lemmas.List.{append_assoc, append-nil}}
use Rattle.bridge_io.specs.{Adding.Adds, declared.outside.Fail.{Fail, TheVariants.Memory}, declared.outside.Store.Ghosts}
use Rattle.bridge_io.specs.declared.sheet.Sheet.{Sheet}
use Rattle.bridge_io.proofs.Adding.{adds_answered, adds_none, adds_same, adds_stop_at, adds_then, adds_wanting}

-- what is added so far goes on to the whole
pub record Progress {F : Type 0} (store : Ghosts F) (whole left : List ℕ) (old new : Sheet F) : Type 0 where
  pub done : List ℕ
  pub goes : done ++ left ≡ whole
  pub adds : Adds {T = Unit {0}} store done old new (Ok tt)

pub nothing_yet : {F : Type 0} {store : Ghosts F} (whole : List ℕ) (sheet : Sheet F) → Progress store whole whole sheet sheet
nothing_yet whole sheet = record { done = []; goes = refl; adds = adds_none sheet }

module _ {F : Type 0} {store : Ghosts F} {whole left : List ℕ} {old mid : Sheet F} (so_far : Progress store whole left old mid) where
  -- nothing is left
  pub all_added : left ≡ [] → Adds {T = Unit {0}} store whole old mid (Ok tt)
  all_added none = adds_same (sym (append-nil so_far.done) ∙ ap (λ t. so_far.done ++ t) (sym none) ∙ so_far.goes) so_far.adds

  -- what is left is added, or fails
  pub ends : {T : Type 0} {new : Sheet F} {result : Result T Fail} → Adds store left mid new result → Adds store whole old new result
  ends last = adds_same so_far.goes (adds_then left so_far.adds last)

  -- memory is wanting
  pub wants : {T : Type 0} (result : Result T Fail) → IsErrAnd result (λ e. e ≡ Memory) → Adds {T = T} store whole old mid result
  wants result wanting = adds_wanting left whole result so_far.goes wanting so_far.adds

  module _ (part rest : List ℕ) (is : left ≡ part ++ rest) where
    goes_on : so_far.done ++ part ++ rest ≡ whole
    goes_on = append_assoc so_far.done part rest ∙ ap (λ t. so_far.done ++ t) (sym is) ∙ so_far.goes

    -- a further part is added
    pub further : {S : Type 0} {x : S} {new : Sheet F} → Adds store part mid new (Ok x) → Progress store whole rest old new
    further one = record { done = so_far.done ++ part; goes = goes_on; adds = adds_answered tt (adds_then part so_far.adds one) }

    -- a further part fails
    pub fails : {S T : Type 0} {fail : Fail} {new : Sheet F} (result : Result T Fail) → IsErrAnd result (λ e. e ≡ fail)
        → Adds {T = S} store part mid new (Err fail) → Adds {T = T} store whole old new result
    fails result handed one = adds_same goes_on (adds_stop_at rest result handed (adds_then part so_far.adds one))

-- the member at a place, and those behind it
pub next_at : {X : Type 0} (xs : List X) (place : ℕ) (x : X) → place < length xs → x ≡ get_or xs place x
    → drop place xs ≡ x ∷ drop (place + 1) xs
next_at xs place x below is = rw add-one (drop-cons xs place x below ∙ ap (λ y. y ∷ drop (suc place) xs) (sym is))
