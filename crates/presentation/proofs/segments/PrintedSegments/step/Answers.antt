use Rattle.timeline.specs.Listed.{timing_of}
use Rattle.presentation.proofs.segments.PrintedSegments.step.Goals as goal

pub returns-in-Some-clause-segment : goal.returns-in-Some-clause-segment
returns-in-Some-clause-segment g c = let passed = c.in-Some.ensures.segment in record {
  times = timing_of c.in-Some.field-0-0;
  part = _;
  next = passed.next;
  has = c.requires c.if-not-files.false _ _ _ passed.countable passed.can.timed;
  timeline = passed.timeline;
}
