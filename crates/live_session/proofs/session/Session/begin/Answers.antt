use Rattle.live_session.proofs.session.Session.begin.Goals as goal
use Rattle.live_judge.proofs.FirstStates.{shown_once}
use Rattle.live_session.proofs.{Beginning.{refused_judged, refused_presented, first_mpd}, Refusing.gives_refusal}

pub returns-in_err-opened-clause-next : goal.returns-in_err-opened-clause-next
returns-in_err-opened-clause-next g c =
    gives_refusal c.from_residual.result _ _ c.from_residual.ensures.1
    (refused_presented _ _ _ c.in_err-opened.field-0.0 c.in_err-opened.ensures)

pub returns-in_err-check_first-clause-next : goal.returns-in_err-check_first-clause-next
returns-in_err-check_first-clause-next g c =
    gives_refusal c.from_residual-in_err-check_first.result _ _ c.from_residual-in_err-check_first.ensures.1
    (refused_judged _ _ _ _ c.in_ok-opened.ensures c.in_err-check_first.field-0.0 c.in_err-check_first.ensures)

pub begun-requires-clause-first : goal.begun-requires-clause-first
begun-requires-clause-first g c =
    first_mpd c.presentations_show_their_mpd.ensures.sections c.presentations_show_their_mpd.ensures.followed
    c.presentations_show_their_mpd.ensures.few _ _ _ _ c.in_ok-opened.ensures c.in_ok-check_first.ensures
    (shown_once c.args.mpd.now c.live.result c.live.ensures.live c.live.ensures.ids)
