-- Errors and results.
use Rattle.std.specs.Prelude.{Bool, true, false, List, ◌++◌, Option, Some, None, Result, Ok, Err}
use Rattle.bridge_io.specs.Answer.{and_then}
use Rattle.layer_faults.specs.declared.live.LiveFault.{LiveFault}
use Rattle.layer_faults.specs.declared.live.LiveFault.TheVariants.{Memory}

-- out of memory says nothing about playlists
abbrev pub told : LiveFault → Option LiveFault
told Memory = None
told fault = Some fault

abbrev pub refused_if : Bool → LiveFault → Result (Unit {0}) LiveFault
refused_if true fault = Err fault
refused_if false fault = Ok tt

-- some members, and then the result of others
abbrev pub behind : {X : Type 0} → List X → Result (List X) LiveFault → Result (List X) LiveFault
behind before others = and_then others (λ xs. Ok (before ++ xs))
