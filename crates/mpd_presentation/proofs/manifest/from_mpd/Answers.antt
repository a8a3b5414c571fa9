use Rattle.mpd_presentation.proofs.manifest.from_mpd.Goals as goal
use Rattle.std.proofs.Common.{sym, subst}
use Rattle.bridge_io.specs.Answer.{Gives}
use Rattle.mpd_rules.specs.Views.{segments_mpd}
use Rattle.presentation.specs.Counting.{refusal}
use Rattle.presentation.proofs.Firsts.{none_before}
use Rattle.mpd_presentation.proofs.Ending.{presented_checked, presented_refused}

pub present_checked-requires : goal.present_checked-requires
present_checked-requires c = none_before _ tt _ (rw c.is_some.ensures at c.in-Ok.ensures)

pub returns-in-Ok : goal.returns-in-Ok
returns-in-Ok c =
    subst (Gives (λ presentation. presentation) refusal c.present_checked.result)
    (sym (presented_checked (segments_mpd c.args.mpd.now) c.args.base.now c.args.now _ (rw c.is_some.ensures at c.in-Ok.ensures)))
    c.present_checked.ensures

pub returns-in-Err : goal.returns-in-Err
returns-in-Err c = presented_refused (segments_mpd c.args.mpd.now) c.args.base.now c.args.now c.in-Err.fault
    (rw c.is_some.ensures at c.in-Err.ensures)
