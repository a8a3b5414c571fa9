-- What a call returns, where one definition determines the result and only memory can fail besides.
use Rattle.std.specs.Prelude.{◌≡◌, Result, Ok, Err, List, [], ◌∷◌, ◌++◌, Option, IfSome}

-- The call returns what the definition says; `value` maps its value, and `refusal` its error. An error that `refusal` maps
-- to `None`, as out of memory, says nothing about the definition.
abbrev pub Gives : {X Y E F : Type 0} → (X → Y) → (E → Option F) → Result X E → Result Y F → Type 0
Gives value refusal (Ok x) meaning = meaning ≡ Ok (value x)
Gives value refusal (Err e) meaning = IfSome (refusal e) (λ f. meaning ≡ Err f)

-- one step after another, until one fails
abbrev pub and_then : {X Y E : Type 0} → Result X E → (X → Result Y E) → Result Y E
and_then (Ok x) next = next x
and_then (Err fault) next = Err fault

-- an error mapped to another type
abbrev pub told_as : {X E F : Type 0} → (E → F) → Result X E → Result X F
told_as tell (Ok x) = Ok x
told_as tell (Err fault) = Err (tell fault)

-- what each member of a list gives, in order, or the first error
abbrev pub gathered : {X Y E : Type 0} → (X → Result (List Y) E) → List X → Result (List Y) E
gathered give [] = Ok []
gathered give (x ∷ xs) = and_then (give x) (λ ys. and_then (gathered give xs) (λ later. Ok (ys ++ later)))
