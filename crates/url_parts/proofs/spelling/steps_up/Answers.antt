use Rattle.url_parts.proofs.spelling.steps_up.Goals as goal
use Rattle.std.proofs.{Common.{◌≡◌, ◌++◌, take, sym, ap, ◌∙◌, arith}, lemmas.Grind.common_steps}
use Rattle.std.specs.{Prelude.codes, List.flat_map}
use Rattle.url_parts.proofs.Spellings.{step_at, steps_up_by_bytes}

pub returns : goal.returns
returns c =
    let out = c.args.out.now in
    let all : take c.loop-byte.byte-index out ≡ out = grind (arith, common_steps) in
    c.from.ensures ∙ c.loop-byte.invariant ∙ ap (λ t. codes "../" ++ flat_map step_at t) all ∙ sym (steps_up_by_bytes out)
