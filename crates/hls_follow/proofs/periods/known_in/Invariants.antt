use Rattle.std.proofs.Common.{◌≡◌, drop}
use Rattle.hls_follow.specs.Periods.{known_in}
use Rattle.hls_follow.proofs.periods.known_in.Given as goal

abbrev pub invariant-loop-period : goal.invariant-loop-period
invariant-loop-period l = known_in l.number (drop l.period-index l.periods) ≡ known_in l.number l.periods
