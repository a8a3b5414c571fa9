use Rattle.std.proofs.Common.{arith, ◌+◌}
use Rattle.exact_time.proofs.Decimals.{digit_at, value_more}
use Rattle.hls_media.proofs.Digits.{twenty_digits}
use Rattle.hls_media.proofs.value.number.Goals as goal

pub overflow_mul-number : goal.overflow_mul-number
overflow_mul-number c = omega (
  arith,
  twenty_digits c.loop-digit.number c.loop-digit.digit-index c.loop-digit.invariant.1
      (omega (arith, c.requires.few)),
)

pub overflow_sub-number : goal.overflow_sub-number
overflow_sub-number c = (digit_at c.args.digits.now c.loop-digit.digit-index c.requires.ascii (omega arith)).0

pub overflow_add-number : goal.overflow_add-number
overflow_add-number c =
    let l = c.loop-digit in
    let more = value_more c.args.digits.now l.digit-index l.number c.requires.ascii (omega arith) l.invariant.0 l.invariant.1 in
    omega (arith, twenty_digits _ (l.digit-index + 1) more.1 (omega (arith, c.requires.few)))

pub loop-digit-preserved : goal.loop-digit-preserved
loop-digit-preserved c =
    let l = c.loop-digit in
    value_more c.args.digits.now l.digit-index l.number c.requires.ascii (omega arith) l.invariant.0 l.invariant.1

pub returns-clause-small : goal.returns-clause-small
returns-clause-small c = twenty_digits c.loop-digit.number c.loop-digit.digit-index c.loop-digit.invariant.1 (omega (arith, c.requires.few))
