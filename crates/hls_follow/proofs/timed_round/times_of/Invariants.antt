use Rattle.std.proofs.Common.{◌≡◌, ◌++◌, length}
use Rattle.hls_follow.specs.TimedRounds.{times_of}
use Rattle.hls_follow.proofs.timed_round.times_of.Given as goal

-- the times so far, and those of the sections that are left
abbrev pub invariant-loop-row : goal.invariant-loop-row
invariant-loop-row l = l.own ++ times_of l.count l.place l.rest ≡ times_of l.count l.place l.fn.times

abbrev pub decreases-loop-row : goal.decreases-loop-row
decreases-loop-row l = length l.rest
