use Rattle.std.proofs.Common.{length}
use Rattle.timeline.specs.Spans.{IsRowSoFar}
use Rattle.timeline.proofs.spans.in_row.Given as goal

abbrev pub invariant-loop-span : goal.invariant-loop-span
invariant-loop-span l = IsRowSoFar l.fn.ticks l.fn.spans l.builder l.former l.rest

abbrev pub decreases-loop-span : goal.decreases-loop-span
decreases-loop-span l = length l.rest
