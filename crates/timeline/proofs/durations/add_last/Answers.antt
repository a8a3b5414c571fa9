use Rattle.std.proofs.Common.{◌≡◌, ◌+◌, ◌*◌, ◌≤◌, arith}
use Rattle.timeline.proofs.Counted.{last_added}
use Rattle.timeline.proofs.durations.add_last.Goals as goal

pub returns-then-start-from : goal.returns-then-start-from
returns-then-start-from c =
    let bound : c.from.result * c.from-2.result ≡ c.args.length * c.args.ticks = cc (c.from.ensures, c.length.view_is, c.from-2.ensures) in
    let fits : (c.former-start.result + c.args.duration) * 1000000000 ≤ c.args.length * c.args.ticks =
    omega (arith, bound, c.from-3.ensures, c.if-start-from.true) in
    last_added c.args.builder.now c.add.new.self c.args.ticks c.args.length c.args.duration c.former-start.result c.add.result
    c.requires.scale c.requires.origin c.former-start.ensures fits c.add.ensures.members c.add.ensures.limits c.add.ensures.laid
