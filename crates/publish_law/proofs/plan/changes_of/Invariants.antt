use Rattle.std.proofs.Common.{◌≡◌, map, take}
use Rattle.publish_law.specs.Plans.{change_of}
use Rattle.publish_law.proofs.plan.changes_of.Given as goal

abbrev pub invariant-loop-track : goal.invariant-loop-track
invariant-loop-track l = l.changes.items ≡ map (change_of l.plan) (take l.track-index l.tracks)
