use Rattle.std.proofs.Common.{length}
use Rattle.timeline.specs.{MediaTimelines.expansion_of_laid, Reaches.IsSoFar}
use Rattle.timeline.proofs.timelines.laid_out.Given as goal

abbrev pub invariant-loop-entry : goal.invariant-loop-entry
invariant-loop-entry l = IsSoFar l.scale l.end (expansion_of_laid l.scale l.end l.timeline) l.builder l.rest

abbrev pub decreases-loop-entry : goal.decreases-loop-entry
decreases-loop-entry l = length l.rest
