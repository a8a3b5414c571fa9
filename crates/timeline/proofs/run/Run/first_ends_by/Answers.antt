use Rattle.std.proofs.Common.{rules}
use Rattle.timeline.specs.Bounds.{time_of_bound}
use Rattle.timeline.proofs.Ratios.{at_most-floor}
use Rattle.timeline.proofs.run.Run.first_ends_by.Goals as goal

pub returns : goal.returns
returns c =
    let floor = at_most-floor c.args.self.now.end.n c.args.self.now.end.scale (time_of_bound c.args.bound) c.args.bound.positive in
    search (rules, floor)
