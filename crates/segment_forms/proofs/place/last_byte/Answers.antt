use Rattle.segment_forms.proofs.place.last_byte.Goals as goal
use Rattle.segment_forms.proofs.PlaceLemmas.{last_place_some, last_place_none}
use Rattle.std.proofs.Common.{◌-◌, ◌==◌, arith, rules}

pub returns-then-text-end-clause-value : goal.returns-then-text-end-clause-value
returns-then-text-end-clause-value c = last_place_some (λ b. b == c.args.byte) c.args.text.now (c.loop-end.end - 1) (omega arith)
    (search rules) (λ k from below. c.loop-end.invariant.1 k (omega arith) below)

pub returns-clause-value : goal.returns-clause-value
returns-clause-value c = last_place_none (λ b. b == c.args.byte) c.args.text.now (λ k below. c.loop-end.invariant.1 k (omega arith) below)
