use Rattle.live_session.proofs.change.presented.Goals as goal
use Rattle.std.proofs.lemmas.Result.{err_from_is_err_and}
use Rattle.live_session.proofs.Presenting.{presented_by, unpresented}

pub returns-in_ok-from_mpd-in-Some-clause-ok : goal.returns-in_ok-from_mpd-in-Some-clause-ok
returns-in_ok-from_mpd-in-Some-clause-ok c =
    presented_by _ _ c.presentations_show_their_mpd.ensures.followed _ _ _ c.in-Some.ensures c.in_ok-from_mpd-in-Some.ensures

pub returns-in_err-from_mpd-in-Some-clause-err : goal.returns-in_err-from_mpd-in-Some-clause-err
returns-in_err-from_mpd-in-Some-clause-err c =
    let p = err_from_is_err_and c.from_residual.result c.from_residual.ensures.1 in
    rw (p.1, p.2) (unpresented c.args.standing.now _ _ _ c.in_err-from_mpd-in-Some.field-0.0 c.in-Some.ensures
    c.in_err-from_mpd-in-Some.ensures)
