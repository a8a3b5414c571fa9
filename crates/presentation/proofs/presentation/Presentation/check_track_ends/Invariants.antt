use Rattle.presentation.proofs.presentation.Presentation.check_track_ends.Given as goal
use Rattle.std.proofs.Common.{length}
use Rattle.presentation.specs.{Counting.range_at, Presented.looked_at}
use Rattle.presentation.proofs.FirstFault.{IsNoneBefore}

abbrev pub invariant-loop-section : goal.invariant-loop-section
invariant-loop-section l = IsNoneBefore (range_at (looked_at l.now l.self) l.track) (length l.self.sections) l.section
