use Rattle.std.proofs.Common.{◌≡◌, drop}
use Rattle.hls_follow.specs.OwnTimes.{period_in}
use Rattle.hls_follow.proofs.snapshot.period_in.Given as goal

abbrev pub invariant-loop-period : goal.invariant-loop-period
invariant-loop-period l = period_in l.number (drop l.period-index l.periods) ≡ period_in l.number l.periods
