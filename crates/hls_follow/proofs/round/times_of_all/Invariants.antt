use Rattle.std.proofs.Common.{◌≡◌, map, take}
use Rattle.hls_follow.specs.Rounds.{times_in}
use Rattle.hls_follow.proofs.round.times_of_all.Given as goal

abbrev pub invariant-loop-timed : goal.invariant-loop-timed
invariant-loop-timed l = l.all ≡ map times_in (take l.timed-index l.tracks)
