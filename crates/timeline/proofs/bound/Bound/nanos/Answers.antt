use Rattle.timeline.proofs.bound.Bound.nanos.Goals as goal
use Rattle.std.proofs.{Common.arith, lemmas.Int.{ints, clamps}}
use Rattle.timeline.proofs.LimitLemmas.{at_most-clamped}

pub returns : goal.returns
returns c = at_most-clamped c.args.count _ (omega (arith, ints, clamps))
