use Rattle.hls_follow.proofs.timed_periods.live_segments.Given as goal
use Rattle.std.proofs.Common.{◌≡◌, ◌+◌, ◌++◌, drop, sum}
use Rattle.hls_follow.specs.{Stretches.stretch_of, TimedPeriods.{live_segments, segments_from}}

abbrev pub invariant-loop-segment : goal.invariant-loop-segment
invariant-loop-segment l = record {
  end : l.time + sum l.left ≡ l.run.first + sum l.run.durations;
  told : l.segments ++ segments_from l.time l.left (drop l.segment-index l.stretch.segments.now)
      ≡ live_segments (stretch_of l.stretch) l.run;
}
