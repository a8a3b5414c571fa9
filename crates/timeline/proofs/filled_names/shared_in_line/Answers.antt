use Rattle.std.proofs.Common.{subst}
use Rattle.timeline.specs.Makers.{GoesOnBeneath}
use Rattle.timeline.proofs.ShortNames.{beneath_from}
use Rattle.timeline.proofs.filled_names.shared_in_line.Goals as goal

pub returns-in_ok-names-in-Some : goal.returns-in_ok-names-in-Some
returns-in_ok-names-in-Some c = beneath_from c.args.base.now c.args.names c.in_ok-names-in-Some.names c.in-Some.deeper
    (subst (GoesOnBeneath c.args.base.now c.args.names) c.in-Some.is c.in_ok-deeper.ensures) c.in_ok-names-in-Some.ensures
