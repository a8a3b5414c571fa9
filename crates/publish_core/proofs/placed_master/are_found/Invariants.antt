use Rattle.std.proofs.Common.{◌≡◌, length}
use Rattle.publish_core.specs.Taken.{are_found}
use Rattle.publish_core.proofs.placed_master.are_found.Given as goal

abbrev pub invariant-loop-track : goal.invariant-loop-track
invariant-loop-track l = are_found l.tracks l.found l.names ≡ are_found l.fn.tracks l.fn.found l.fn.names

abbrev pub decreases-loop-track : goal.decreases-loop-track
decreases-loop-track l = length l.tracks
