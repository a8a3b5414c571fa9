-- Refusals behind others.
use Rattle.std.proofs.Common.{◌≡◌, Bool, false, List, [], ◌∷◌, ◌++◌, if◌then◌else◌, refl}
use Rattle.presentation.specs.declared.fault.PresentationFault.{PresentationFault}

pub none_told : (a b : Bool) (one other : PresentationFault) (later : List PresentationFault) → a ≡ false → b ≡ false
    → ((if a then one ∷ [] else []) ++ ((if b then other ∷ [] else []) ++ later)) ≡ later
none_told a b one other later p q = rw (p, q) refl
