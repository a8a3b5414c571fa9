use Rattle.timeline.proofs.Counted.{row_none, row_added}
use Rattle.timeline.proofs.durations.add_some.Goals as goal

pub returns-then-count-eq0 : goal.returns-then-count-eq0
returns-then-count-eq0 c = row_none c.args.builder.now c.args.duration c.args.count c.requires.fresh c.if-count-eq0.true

pub returns : goal.returns
returns c = row_added c.args.builder.now c.add.new.self c.args.duration c.args.count c.add.result c.requires.fresh c.add.ensures.members
    c.add.ensures.limits c.add.ensures.former c.add.ensures.closed c.add.ensures.laid
