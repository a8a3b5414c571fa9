-- The first member of a list.
use Rattle.std.specs.{Prelude.{List, [], ◌∷◌, Option, None, Result, Ok, Err}, List.slice_get, Option.option_or}

abbrev pub first_of : {X : Type 0} → List X → Option X
first_of xs = slice_get xs 0

-- the first `Some`
abbrev pub first_some : {X : Type 0} → List (Option X) → Option X
first_some [] = None
first_some (found ∷ later) = option_or found (first_some later)

-- `Ok` where there is no fault, or else the first one
abbrev pub first_fault : {F : Type 0} → List F → Result (Unit {0}) F
first_fault [] = Ok tt
first_fault (fault ∷ faults) = Err fault
