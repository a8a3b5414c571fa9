use Rattle.std.proofs.Common.{◌≡◌, ◌++◌, drop}
use Rattle.hls_follow.specs.Periods.{live_segments}
use Rattle.hls_follow.proofs.periods.segments_of.Given as goal

abbrev pub invariant-loop-timed : goal.invariant-loop-timed
invariant-loop-timed l = l.segments.items ++ live_segments (drop l.timed-index l.group) ≡ live_segments l.group
