use Rattle.std.proofs.Common.{◌≡◌, drop}
use Rattle.publish_law.specs.Plans.{long_from}
use Rattle.publish_law.proofs.plan.first_long.Given as goal

abbrev pub invariant-loop-place : goal.invariant-loop-place
invariant-loop-place l = long_from l.plan l.place (drop l.place l.tracks) ≡ long_from l.plan 0 l.tracks
