-- What an answer of steps says of each step.
use Rattle.std.proofs.Common.{◌≡◌, Result, Ok, Err, refl}
use Rattle.bridge_io.specs.Answer.{and_then}

pub record Steps {X Y E : Type 0} (r : Result X E) (next : X → Result Y E) (y : Y) : Type 0 where
  pub value : X
  pub first : r ≡ Ok value
  pub then : next value ≡ Ok y

pub steps_of : {X Y E : Type 0} (r : Result X E) (next : X → Result Y E) (y : Y) → and_then r next ≡ Ok y → Steps r next y
steps_of (Ok x) next y is = record { value = x; first = refl; then = is }
steps_of (Err e) next y is = absurd (cc)
