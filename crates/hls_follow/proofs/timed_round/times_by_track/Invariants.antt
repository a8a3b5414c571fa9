use Rattle.std.proofs.Common.{◌≡◌, ◌++◌, ◌-◌, length}
use Rattle.hls_follow.proofs.Placing.{times_from}
use Rattle.hls_follow.proofs.timed_round.times_by_track.Given as goal

abbrev pub invariant-loop-place : goal.invariant-loop-place
invariant-loop-place l = l.all ++ times_from (length l.kept - l.place) (length l.kept) l.place l.times
    ≡ times_from (length l.kept) (length l.kept) 0 l.times
