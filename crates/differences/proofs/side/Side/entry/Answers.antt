use Rattle.std.proofs.Common.{◌^◌, ap, ◌∙◌, length}
use Rattle.comparison.specs.Comparing.{entry_made}
use Rattle.comparison.proofs.Walks.{addressed, as_many_left, entry_is}
use Rattle.differences.proofs.side.Side.entry.Goals as goal

pub segments-requires-clause-reached : goal.segments-requires-clause-reached
segments-requires-clause-reached c = c.requires.side.listable.counted.at c.args.section c.args.track c.requires.section c.requires.track

pub over-requires : goal.over-requires
over-requires c = addressed c.args.self.now.presentation.now c.args.section c.args.track (10 ^ c.args.self.now.digits) c.segments.result
    c.initialization.result.now c.initialization.ensures c.segments.ensures
    (c.requires.side.listable.addressed c.args.section c.args.track c.requires.section c.requires.track)

pub returns-clause-entry : goal.returns-clause-entry
returns-clause-entry c = ap (entry_made c.initialization.result.now) c.over.ensures
    ∙ entry_is c.args.self.now.presentation.now c.args.section c.args.track
    (10 ^ c.args.self.now.digits) c.segments.result c.initialization.result.now c.initialization.ensures c.segments.ensures

pub returns-clause-listed : goal.returns-clause-listed
returns-clause-listed c = ap length c.over.ensures
    ∙ as_many_left c.args.self.now.presentation.now c.args.section c.args.track
    (10 ^ c.args.self.now.digits) c.segments.result c.initialization.result.now c.initialization.ensures c.segments.ensures
