use Rattle.std.proofs.Common.{◌≡◌, length}
use Rattle.hls_presentation.specs.Tracks.{map_changes, map_changes_behind}
use Rattle.hls_presentation.proofs.checks.map_changes.Given as goal

abbrev pub invariant-loop-next : goal.invariant-loop-next
invariant-loop-next l = map_changes_behind l.segment l.rest ≡ map_changes l.segments

abbrev pub decreases-loop-next : goal.decreases-loop-next
decreases-loop-next l = length l.rest
