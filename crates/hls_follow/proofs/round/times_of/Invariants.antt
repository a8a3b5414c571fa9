use Rattle.std.proofs.Common.{◌≡◌, take}
use Rattle.hls_follow.specs.Rounds.{times_in}
use Rattle.hls_follow.proofs.round.times_of.Given as goal

abbrev pub invariant-loop-segment : goal.invariant-loop-segment
invariant-loop-segment l = l.times.items ≡ times_in (take l.segment-index l.timed)
