use Rattle.std.proofs.Common.{◌≡◌, take}
use Rattle.publish_law.specs.Plans.{least_of_all}
use Rattle.publish_law.proofs.plan.least_of_all.Given as goal

abbrev pub invariant-loop-track : goal.invariant-loop-track
invariant-loop-track l = l.least ≡ least_of_all l.all (take l.track-index l.tracks)
