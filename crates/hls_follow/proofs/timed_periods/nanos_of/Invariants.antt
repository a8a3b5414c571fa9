use Rattle.std.proofs.Common.{◌≡◌, ◌+◌, drop, sum}
use Rattle.hls_follow.proofs.timed_periods.nanos_of.Given as goal

abbrev pub invariant-loop-duration : goal.invariant-loop-duration
invariant-loop-duration l = l.end + sum (drop l.duration-index l.run.durations) ≡ l.run.first + sum l.run.durations
