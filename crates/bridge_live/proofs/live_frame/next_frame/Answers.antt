use Rattle.mpd_rules.specs.Views.{segments_mpd}
use Rattle.live_meaning.specs.Updates.{Refresh, Reset}
use Rattle.bridge_live.proofs.LiveFrames.{next_by, refreshed, reset_so}
use Rattle.bridge_live.proofs.live_frame.next_frame.Goals as goal

pub returns-in_ok-mpd-in-Mpd-clause-state : goal.returns-in_ok-mpd-in-Mpd-clause-state
returns-in_ok-mpd-in-Mpd-clause-state g c =
    let values = segments_mpd c.in_ok-mpd-in-Mpd.mpd in let x = c.args.frame.now in
    next_by _ c.args.session.now x (Refresh values c.in-Mpd.now) c.refresh-answer.result c.taken.result
    (refreshed x c.in-Mpd.now c.in-Mpd.body values c.in-Mpd.is c.in_ok-mpd-in-Mpd.ensures.mpd) c.refresh-answer.ensures.next c.taken.ensures

pub returns-in_ok-mpd-in-Reset-clause-state : goal.returns-in_ok-mpd-in-Reset-clause-state
returns-in_ok-mpd-in-Reset-clause-state g c =
    let values = segments_mpd c.in_ok-mpd-in-Reset.mpd in let x = c.args.frame.now in
    next_by _ c.args.session.now x (Reset values c.in-Reset.now) c.reset-answer.result c.taken-in-Reset.result
    (reset_so x c.in-Reset.now c.in-Reset.body values c.in-Reset.is c.in_ok-mpd-in-Reset.ensures.mpd)
    c.reset-answer.ensures.next c.taken-in-Reset.ensures
