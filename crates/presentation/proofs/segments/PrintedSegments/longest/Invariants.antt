use Rattle.std.proofs.Common.{◌≡◌, ◌+◌, length, max}
use Rattle.presentation.specs.Verifying as spec
use Rattle.presentation.proofs.segments.PrintedSegments.longest.Given as goal

-- the segments before this one have addresses
abbrev pub invariant-loop-segment : goal.invariant-loop-segment
invariant-loop-segment g l = let section = l.section in let track = l.track in record {
  timeline : l.self.timeline ≡ l.fn.self.timeline;
  place : l.segment + length l.self.left ≡ length l.fn.self.left;
  faults : spec.part_faults l.fn.self.timeline section track 0 (spec.times_of l.fn.self.left)
      ≡ spec.part_faults l.fn.self.timeline section track l.segment (spec.times_of l.self.left);
  longest : spec.longest_left l.fn.self.left ≡ max l.longest (spec.longest_left l.self.left);
  made : l.steps + length l.self.left ≡ l.fn.steps + length l.fn.self.left;
}
