-- What some things give one after another.
use Rattle.std.proofs.Common.{◌≡◌, List, [], ◌∷◌, ◌++◌, Result, Ok, Err, IfSome, refl, sym, ◌∙◌, ap, append_assoc}
use Rattle.bridge_io.specs.Answer.{and_then, gathered}
use Rattle.presentation.specs.{declared.fault.PresentationFault.PresentationFault, Counting.refusal}
use Rattle.presentation.proofs.Printing.{if_some}

-- the same behind what was there
abbrev pub behind : {Y E : Type 0} → List Y → Result (List Y) E → Result (List Y) E
behind before r = and_then r (λ ys. Ok (before ++ ys))

pub behind_nothing : {Y E : Type 0} (r : Result (List Y) E) → behind [] r ≡ r
behind_nothing (Ok ys) = refl
behind_nothing (Err e) = refl

behind_twice : {Y E : Type 0} (before ys : List Y) (r : Result (List Y) E) → behind before (and_then r (λ later. Ok (ys ++ later)))
    ≡ behind (before ++ ys) r
behind_twice before ys (Ok later) = ap Ok (sym (append_assoc before ys later))
behind_twice before ys (Err e) = refl

module _ {X Y : Type 0} (give : X → Result (List Y) PresentationFault) (x : X) (xs : List X) (before : List Y) where
  pub goes_on : (ys : List Y) → give x ≡ Ok ys → behind before (gathered give (x ∷ xs)) ≡ behind (before ++ ys) (gathered give xs)
  goes_on ys is = rw is (behind_twice before ys (gathered give xs))

  pub stops : (fault : PresentationFault) (all : Result (List Y) PresentationFault) → behind before (gathered give (x ∷ xs)) ≡ all
      → IfSome (refusal fault) (λ f. give x ≡ Err f) → IfSome (refusal fault) (λ f. all ≡ Err f)
  stops fault all so_far told = if_some (refusal fault) _ _ (λ f is. sym so_far ∙ rw is refl) told

-- a step that is refused refuses what stands behind it
pub step_told : {X Y : Type 0} (r : Result X PresentationFault) (next : X → Result Y PresentationFault) (fault : PresentationFault)
    → IfSome (refusal fault) (λ f. r ≡ Err f) → IfSome (refusal fault) (λ f. and_then r next ≡ Err f)
step_told r next fault told = if_some (refusal fault) _ _ (λ f is. rw is refl) told
