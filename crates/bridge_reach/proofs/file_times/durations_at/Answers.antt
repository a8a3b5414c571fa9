use Rattle.bridge_reach.proofs.Counted.{as_long}
use Rattle.bridge_reach.proofs.file_times.durations_at.Goals as goal

pub returns-in-Ok-clause-as_many : goal.returns-in-Ok-clause-as_many
returns-in-Ok-clause-as_many g c =
    as_long c.args.form c.args.presentation.now c.args.times.now c.in-Ok.durations c.requires.filled c.in-Ok.ensures.durations
