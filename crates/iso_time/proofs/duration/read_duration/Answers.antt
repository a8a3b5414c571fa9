use Rattle.iso_time.proofs.duration.read_duration.Goals as goal
use Rattle.std.proofs.Common.{Err, rules}
use Rattle.iso_time.specs.{declared.duration.DurationFault.TheVariants.Shape, Duration.duration_of}
use Rattle.iso_time.proofs.DurationLemmas.{exactly}

pub returns-in-Some-clause-exactly : goal.returns-in-Some-clause-exactly
unfolding duration_of
returns-in-Some-clause-exactly c = exactly c.args.text.now c.nanos.result (search rules)

pub returns-in-None-clause-exactly : goal.returns-in-None-clause-exactly
unfolding duration_of
returns-in-None-clause-exactly c = exactly c.args.text.now (Err Shape) (search rules)
