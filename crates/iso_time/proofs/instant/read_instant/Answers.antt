use Rattle.iso_time.proofs.instant.read_instant.Goals as goal
use Rattle.std.proofs.Common.{Err, rules}
use Rattle.iso_time.specs.{declared.instant.InstantFault.TheVariants.Shape, Instant.instant_of}
use Rattle.iso_time.proofs.InstantLemmas.{exactly, readable}

pub returns-in-Some-clause-exactly : goal.returns-in-Some-clause-exactly
unfolding instant_of
returns-in-Some-clause-exactly c = exactly c.args.text.now c.instant.result (search rules)

pub returns-in-None-clause-exactly : goal.returns-in-None-clause-exactly
unfolding instant_of
returns-in-None-clause-exactly c = exactly c.args.text.now (Err Shape) (search rules)

pub returns-in-Some-clause-readable : goal.returns-in-Some-clause-readable
unfolding instant_of
returns-in-Some-clause-readable c = readable c.args.text.now c.instant.result (search rules)
