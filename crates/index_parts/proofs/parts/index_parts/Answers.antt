use Rattle.index_parts.proofs.parts.index_parts.Goals as goal
use Rattle.std.proofs.Common.{map, sym, ◌∙◌, ap, subst}
use Rattle.bridge_io.specs.Answer.{Gives}
use Rattle.mpd_rules.specs.Typed.{period_with}
use Rattle.presentation.specs.Presented.{Presented}
use Rattle.index_parts.specs.{Presented.{indexed_of, presented_by}, Refusals.refusal, Rows.{period_of, shown}}
use Rattle.index_parts.proofs.Presented.{as_presented}

pub returns-in-Some-clause-presented : goal.returns-in-Some-clause-presented
unfolding indexed_of
returns-in-Some-clause-presented g c = λ files told.
    let periods = ap (map (period_with shown)) (sym c.periods.ensures.periods ∙ c.in-Some.ensures.steps) in
    let base = c.args.base.now in
    let folder = c.args.folder.now in
    let made = rw c.left_out.ensures at (c.present.ensures.presented files told) in
    subst (λ periods. Gives (λ (p : Presented). p) refusal c.present.result
    (presented_by base folder files c.args.mpd.now.values.left_out periods)) (sym periods)
    (subst (λ told. Gives (λ (p : Presented). p) refusal c.present.result told)
    (as_presented base folder files c.args.mpd.now.values.left_out (period_of c.in-Some.period)) made)
