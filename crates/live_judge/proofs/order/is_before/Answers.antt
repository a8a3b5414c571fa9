use Rattle.std.proofs.Common.{◌∙◌, ap, refl, sym}
use Rattle.std.specs.Option.{option_copied}
use Rattle.live_judge.proofs.Ordering.{before_at, lent_at}
use Rattle.live_judge.proofs.order.is_before.Goals as goal

pub returns-in-Some : goal.returns-in-Some
returns-in-Some c =
    let at = sym (lent_at c.args.periods.now c.args.place c.get.result c.get.ensures.lookup) ∙ ap option_copied c.in-Some.is in
    rw (before_at c.args.periods.now c.args.id.now c.args.place, at, c.is_lt.ensures, c.cmp.ensures, c.as_str.ensures) refl

pub returns-in-None : goal.returns-in-None
returns-in-None c =
    let at = sym (lent_at c.args.periods.now c.args.place c.get.result c.get.ensures.lookup) ∙ ap option_copied c.in-None.is in
    rw (before_at c.args.periods.now c.args.id.now c.args.place, at) refl
