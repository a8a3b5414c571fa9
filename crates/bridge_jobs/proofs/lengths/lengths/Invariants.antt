use Rattle.std.specs.Option.{option_copied}
use Rattle.bridge_jobs.proofs.LengthsInTurn.{IsSoFar}
use Rattle.bridge_jobs.proofs.lengths.lengths.Given as goal

abbrev pub invariant-loop-track : goal.invariant-loop-track
invariant-loop-track l = IsSoFar l.fn.tracks (option_copied l.fn.text) l._track l.lengths l.room (option_copied l.rest)
