use Rattle.timeline.proofs.spans.is_broken.Goals as goal
use Rattle.std.proofs.{Common.{◌≤◌, ◌*◌, ℕ, sym, ap, ◌∙◌, arith}, lemmas.Int.ints}
use Rattle.timeline.proofs.Counted.{breaks_else}

pub returns : goal.returns
returns c =
    let short : c.lasting.result ≤ 1000000 * (c.args.start.scale * c.args.end.scale) =
    omega (arith, c.if-from-scales.false, ap (λ (n : ℕ). n * c.scales.result) c.from.ensures, c.scales.ensures.value) in
    c.ends_late.ensures ∙ sym (breaks_else c.args.start c.args.end c.lasting.result c.lasting.ensures.value
    (omega (arith, ints, c.if-end.false)) short)
