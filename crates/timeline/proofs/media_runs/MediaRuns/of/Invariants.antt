use Rattle.std.proofs.Common.{◌≡◌, length}
use Rattle.timeline.specs.MediaTimelines.{IsMedia, rest_of}
use Rattle.timeline.proofs.media_runs.MediaRuns.of.Given as goal

abbrev pub invariant-loop-entry : goal.invariant-loop-entry
invariant-loop-entry l = IsMedia l.entries l.media × (l.rest ≡ rest_of l.entries l.media)

abbrev pub decreases-loop-entry : goal.decreases-loop-entry
decreases-loop-entry l = length l.rest
