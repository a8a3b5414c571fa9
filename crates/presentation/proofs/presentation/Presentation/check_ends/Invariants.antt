use Rattle.presentation.proofs.presentation.Presentation.check_ends.Given as goal
use Rattle.std.proofs.Common.{length}
use Rattle.presentation.specs.{Counting.range_faults_of, Presented.looked_at}
use Rattle.presentation.proofs.FirstFault.{IsNoneBefore}

abbrev pub invariant-loop-track : goal.invariant-loop-track
invariant-loop-track l = IsNoneBefore (range_faults_of (looked_at l.now l.self)) (length l.self.tracks) l.track
