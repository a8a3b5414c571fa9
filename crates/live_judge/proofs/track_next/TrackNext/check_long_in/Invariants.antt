use Rattle.live_judge.proofs.track_next.TrackNext.check_long_in.Given as goal
use Rattle.std.proofs.Common.{◌≡◌, length}
use Rattle.live_meaning.specs.Updates.{unit_of}
use Rattle.live_judge.specs.{Coming.c_of, Long.longs_told, Times.{IsPaced, left_of}}
use Rattle.live_judge.proofs.Totals.{durs}

abbrev pub invariant-loop-run : goal.invariant-loop-run
invariant-loop-run l = record {
  paced : IsPaced l.times;
  none : longs_told (unit_of (c_of l.self).terms) (c_of l.self).target (durs l.self l.section)
      ≡ longs_told (unit_of (c_of l.self).terms) (c_of l.self).target (left_of l.times);
}

abbrev pub decreases-loop-run : goal.decreases-loop-run
decreases-loop-run l = length (left_of l.times)
