use Rattle.differences.proofs.side.Side.listed.Goals as goal

pub listed-requires-clause-counted : goal.listed-requires-clause-counted
listed-requires-clause-counted c = c.requires.side.listable.counted.at c.args.section c.args.track c.requires.section c.requires.track
