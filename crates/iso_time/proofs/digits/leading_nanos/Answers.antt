use Rattle.std.proofs.Common.{arith}
use Rattle.exact_time.proofs.Decimals.{leading_below}
use Rattle.iso_time.proofs.digits.leading_nanos.Goals as goal

pub returns-clause-bound : goal.returns-clause-bound
returns-clause-bound c =
    leading_below c.args.digits.now _ _ _ c.min-len.ensures c.number.ensures.bound c.pow.ensures

pub overflow_cast-result : goal.overflow_cast-result
overflow_cast-result c = omega (arith, returns-clause-bound c)
