use Rattle.segment_forms.proofs.place.last_digit.Goals as goal
use Rattle.segment_forms.proofs.PlaceLemmas.{last_place_some, last_place_none}
use Rattle.std.proofs.Common.{◌-◌, arith, rules}
use Rattle.std.specs.Char.{is_ascii_digit}

pub returns-then-is_ascii_digit-clause-value : goal.returns-then-is_ascii_digit-clause-value
returns-then-is_ascii_digit-clause-value c = last_place_some is_ascii_digit c.args.text.now (c.loop-end.end - 1) (omega arith)
    (search rules) (λ k from below. c.loop-end.invariant.1 k (omega arith) below)

pub returns-clause-value : goal.returns-clause-value
returns-clause-value c = last_place_none is_ascii_digit c.args.text.now (λ k below. c.loop-end.invariant.1 k (omega arith) below)
