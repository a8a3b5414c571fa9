use Rattle.std.proofs.Common.{◌≡◌, ◌*◌}
use Rattle.exact_time.specs.Floor.{IsCeiling}
use Rattle.timeline.proofs.Counted.{count_until-is}
use Rattle.timeline.proofs.durations.count_until.Goals as goal

pub returns-in-None : goal.returns-in-None
returns-in-None c =
    let length : c.from.result * c.from-in-None.result ≡ c.args.length * c.args.ticks =
    cc (c.from.ensures, c.length.view_is, c.from-in-None.ensures) in
    let is : IsCeiling (c.args.length * c.args.ticks) (c.args.duration * 1000000000) c.ceil_count.result =
    rw (← length, ← c.from-in-None-2.ensures) c.ceil_count.ensures in
    rw c.in-None.is (count_until-is c.args.length c.args.ticks c.args.duration c.ceil_count.result c.requires.lasting is)
