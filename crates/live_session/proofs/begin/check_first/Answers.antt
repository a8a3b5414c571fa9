use Rattle.live_judge.specs.declared.fault.RefreshFault.TheVariants as faults
use Rattle.live_session.proofs.begin.check_first.Goals as goal
use Rattle.std.proofs.Common.{rules, ◌≡◌, ◌∙◌, false, true, not, sym, refl}
use Rattle.live_meaning.specs.Refusals.{Presentation}
use Rattle.live_judge.proofs.Firsts.{told_first}
use Rattle.live_session.proofs.Beginning.{count_none, count_refused}

pub returns-in-Err : goal.returns-in-Err
returns-in-Err c =
    let fault = faults.Presentation c.in-Err.fault in
    told_first fault _ _ (told_first fault _ _ (count_refused _ _ (sym c.count.ensures ∙ c.in-Err.is)))

pub returns-then-not-live : goal.returns-then-not-live
returns-then-not-live c =
    let off : c.live.result ≡ false = search rules in
    rw (count_none c.args.opened.now c.in-Ok.field-0 (sym c.count.ensures ∙ c.in-Ok.is), sym c.live.ensures.live ∙ off) (refl, refl)

pub returns : goal.returns
returns c =
    let on : c.live.result ≡ true = search rules in
    rw (count_none c.args.opened.now c.in-Ok.field-0 (sym c.count.ensures ∙ c.in-Ok.is), sym c.live.ensures.live ∙ on) c.check_window.ensures
