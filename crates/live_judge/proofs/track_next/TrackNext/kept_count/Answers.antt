use Rattle.live_judge.proofs.track_next.TrackNext.kept_count.Goals as goal
use Rattle.std.proofs.Common.{arith}
use Rattle.live_judge.proofs.Removing.{kept_there}

pub returns-clause-kept : goal.returns-clause-kept
returns-clause-kept c =
    kept_there c.args.self.now c.requires.next c.new_count.result c.removed.result c.saturating_sub.result c.new_count.ensures.count
    c.removed.ensures
    (omega (arith, c.saturating_sub.ensures))
