-- the rest of both is the same where both are
use Rattle.std.proofs.Common.{◌≡◌, length}
use Rattle.publish_core.specs.Sides.{are_same_tracks}
use Rattle.publish_core.proofs.same.are_same_tracks.Given as goal

abbrev pub invariant-loop-new : goal.invariant-loop-new
invariant-loop-new l = are_same_tracks l.news l.olds ≡ are_same_tracks l.fn.news l.fn.olds

abbrev pub decreases-loop-new : goal.decreases-loop-new
decreases-loop-new l = length l.news
