use Rattle.std.proofs.Common.{◌≡◌, take}
use Rattle.publish_law.specs.Plans.{greatest_shift}
use Rattle.publish_law.proofs.plan.greatest_shift.Given as goal

abbrev pub invariant-loop-track : goal.invariant-loop-track
invariant-loop-track l = l.shift ≡ greatest_shift (take l.track-index l.tracks)
