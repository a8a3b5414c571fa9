use Rattle.segment_forms.proofs.run.value_of.Goals as goal
use Rattle.segment_forms.proofs.NumberLemmas.{value_too_great}
use Rattle.std.proofs.Common.{◌∙◌, sym, arith}

pub returns-then-value-from : goal.returns-then-value-from
returns-then-value-from c = value_too_great c.loop-digit.value c.args.digits.now c.loop-digit.digit-index c.loop-digit-test.true
    (sym c.is_ascii_digit.ensures.value ∙ c.if-not-is_ascii_digit.false) c.loop-digit.invariant.1 (omega arith)
