use Rattle.std.proofs.Common.{◌∙◌, sym}
use Rattle.presentation.specs.Presented.{looked_at}
use Rattle.live_judge.proofs.Removing.{removed_is}
use Rattle.live_judge.proofs.removal.removed_of.Goals as goal

pub returns : goal.returns
returns c =
    c.min.ensures ∙ removed_is (looked_at c.args.now c.args.force.now) c.args.track.now c.args.least c.unavailable.result
    c.last_place.result
    (sym c.is_finished.ensures ∙ c.if-is_finished.false) c.requires c.unavailable.ensures c.last_place.ensures
