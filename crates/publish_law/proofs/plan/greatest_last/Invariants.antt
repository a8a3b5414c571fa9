use Rattle.std.proofs.Common.{◌≡◌, take}
use Rattle.publish_law.specs.Plans.{greatest_last}
use Rattle.publish_law.proofs.plan.greatest_last.Given as goal

abbrev pub invariant-loop-track : goal.invariant-loop-track
invariant-loop-track l = l.last ≡ greatest_last (take l.track-index l.tracks)
