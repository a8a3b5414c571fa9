use Rattle.std.proofs.Common.{length}
use Rattle.live_judge.specs.Times.{IsPaced, left_of}
use Rattle.live_judge.proofs.Totals.{IsSoFar, durs}
use Rattle.live_judge.proofs.track_next.TrackNext.total_in.Given as goal

abbrev pub invariant-loop-run : goal.invariant-loop-run
invariant-loop-run l = record {
  paced : IsPaced l.times;
  so_far : IsSoFar l.total (left_of l.times) (durs l.self l.section);
}

abbrev pub decreases-loop-run : goal.decreases-loop-run
decreases-loop-run l = length (left_of l.times)
