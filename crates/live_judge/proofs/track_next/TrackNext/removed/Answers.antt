use Rattle.std.proofs.Common.{arith}
use Rattle.live_judge.proofs.Removing.{removed_there}
use Rattle.live_judge.proofs.track_next.TrackNext.removed.Goals as goal

pub returns : goal.returns
returns c =
    removed_there c.args.self.now c.saturating_sub-least.result c.removed_of.result
    (omega (arith, c.least_length.ensures, c.total.ensures, c.saturating_sub-least.ensures)) c.removed_of.ensures
