use Rattle.exact_time.proofs.Decimals.{leading_below}
use Rattle.hls_media.proofs.value.fraction_nanos.Goals as goal

pub returns-clause-bound : goal.returns-clause-bound
returns-clause-bound c = leading_below c.args.digits.now _ _ _ c.min-len.ensures c.number.ensures.bound c.pow.ensures
