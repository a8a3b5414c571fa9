use Rattle.std.proofs.Common.{◌∙◌, sym}
use Rattle.comparison.specs.Elapsed.{time_since}
use Rattle.differences.proofs.Nearness.{before_is, not_before_is, size_before, size_not_before}
use Rattle.differences.proofs.apart.gap_between.Goals as goal

pub returns-then-later-clause-later : goal.returns-then-later-clause-later
returns-then-later-clause-later c = let x = c.of-mine in let y = c.of-theirs in
    c.if-later.true ∙ sym (before_is (time_since c.args.mine) (time_since c.args.theirs) x.result y.result
    x.ensures.value x.ensures.scale y.ensures.value y.ensures.scale (sym c.is_before-later.ensures ∙ c.if-later.true))

pub returns-then-later-clause-size : goal.returns-then-later-clause-size
returns-then-later-clause-size c = let x = c.of-mine in let y = c.of-theirs in
    c.until-size.ensures ∙ size_before (time_since c.args.mine) (time_since c.args.theirs) x.result y.result
    x.ensures.value x.ensures.scale y.ensures.value y.ensures.scale (sym c.is_before-later.ensures ∙ c.if-later.true)

pub returns-else-later-clause-later : goal.returns-else-later-clause-later
returns-else-later-clause-later c = let x = c.of-mine in let y = c.of-theirs in
    c.if-later.false ∙ sym (not_before_is (time_since c.args.mine) (time_since c.args.theirs) x.result y.result
    x.ensures.value x.ensures.scale y.ensures.value y.ensures.scale (sym c.is_before-later.ensures ∙ c.if-later.false))

pub returns-else-later-clause-size : goal.returns-else-later-clause-size
returns-else-later-clause-size c = let x = c.of-mine in let y = c.of-theirs in
    c.until-size-else-later.ensures ∙ size_not_before (time_since c.args.mine) (time_since c.args.theirs) x.result y.result
    x.ensures.value x.ensures.scale y.ensures.value y.ensures.scale (sym c.is_before-later.ensures ∙ c.if-later.false)
