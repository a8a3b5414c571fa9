use Rattle.std.proofs.Common.{arith}
use Rattle.exact_time.proofs.Decimals.{digit_at, value_more}
use Rattle.iso_time.proofs.digits.number.Goals as goal

pub overflow_sub-number : goal.overflow_sub-number
overflow_sub-number c = (digit_at c.args.digits.now c.loop-digit.digit-index c.requires.ascii (omega arith)).0

pub loop-digit-preserved : goal.loop-digit-preserved
loop-digit-preserved c =
    let l = c.loop-digit in
    value_more c.args.digits.now l.digit-index l.number c.requires.ascii (omega arith) l.invariant.0 l.invariant.1
