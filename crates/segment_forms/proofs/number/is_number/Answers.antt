use Rattle.segment_forms.proofs.number.is_number.Goals as goal
use Rattle.segment_forms.proofs.NumberLemmas.{number_is, number_isnt}
use Rattle.std.proofs.{Common.{◌∙◌, arith, eq-eqb}, lemmas.Bool.ne_eqb}

pub returns-then-value-number : goal.returns-then-value-number
returns-then-value-number c = c.has_width.ensures ∙ rw (eq-eqb _ _ c.if-value-number.true)
    at (number_is c.args.width c.args.number (omega arith) c.args.digits.now c.in-Some.value c.in-Some.ensures)

pub returns-else-value-number : goal.returns-else-value-number
returns-else-value-number c = let ne = ne_eqb _ _ c.if-value-number.false in
    rw ne (rw ne at (number_is c.args.width c.args.number (omega arith) c.args.digits.now c.in-Some.value c.in-Some.ensures))

pub returns-in-None : goal.returns-in-None
returns-in-None c = number_isnt c.args.width c.args.number (omega arith) c.args.digits.now c.in-None.ensures
