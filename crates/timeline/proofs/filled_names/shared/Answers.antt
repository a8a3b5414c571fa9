use Rattle.timeline.proofs.ShortNames.{shared_from}
use Rattle.timeline.proofs.filled_names.shared.Goals as goal

pub returns : goal.returns
returns c = shared_from c.args.base.now c.args.names c.in_ok-line.line c.in_ok-filled.filled c.in_ok-line.ensures c.in_ok-filled.ensures
