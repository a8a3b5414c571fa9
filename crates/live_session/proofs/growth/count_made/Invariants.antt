use Rattle.std.proofs.Common.{◌≡◌, ◌+◌, length, map, drop, sum}
use Rattle.live_session.specs.Making.{all_kept}
use Rattle.live_session.proofs.growth.count_made.Given as goal

abbrev pub invariant-loop-track : goal.invariant-loop-track
invariant-loop-track l = l.count + sum (map length (all_kept (drop l.track-index l.made))) ≡ sum (map length (all_kept l.made))
