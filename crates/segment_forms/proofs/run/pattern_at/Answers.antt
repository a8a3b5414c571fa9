use Rattle.segment_forms.proofs.run.pattern_at.Goals as goal
use Rattle.segment_forms.proofs.RunLemmas.{placed, too_great}
use Rattle.std.proofs.Common.{◌∙◌, arith}

pub returns-in_err-value_of-clause-value : goal.returns-in_err-value_of-clause-value
returns-in_err-value_of-clause-value c = c.from_residual.ensures ∙ too_great c.args.first.now c.args.place c.requires
    (rw (c.run_start-start.ensures.value, c.run_end-end.ensures.value, c.as_bytes-text.ensures.value) at c.in_err-value_of.ensures)

pub returns-clause-placed : goal.returns-clause-placed
returns-clause-placed c = let same = c.as_bytes-text.ensures.value in
    rw (c.width_of.ensures, same) (placed c.args.first.now c.run_start-start.result c.run_end-end.result
    c.in_ok-value_of.field-0 c.utf8.first (omega arith) (rw same at c.run_end-end.ensures.within)
    (rw same at c.run_start-start.ensures.digit) (rw same at c.run_end-end.ensures.digit) (rw same at c.if-run-gt-MOST_DIGITS.false))
