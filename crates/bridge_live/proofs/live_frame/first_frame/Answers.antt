use Rattle.bridge_live.proofs.live_frame.first_frame.Goals as goal
use Rattle.std.proofs.Common.{Ok}
use Rattle.mpd_rules.specs.Views.{segments_mpd}
use Rattle.live_meaning.specs.Updates.{Terms}
use Rattle.bridge_live.specs.LiveMpds.{first_appends}
use Rattle.bridge_live.proofs.LiveFrames.{first_listed, first_one, first_read}

pub returns-in_ok-session-in-Mpd-clause-listed : goal.returns-in_ok-session-in-Mpd-clause-listed
returns-in_ok-session-in-Mpd-clause-listed g c =
    let terms : Terms = record { url = c.args.url.now; digits = c.args.digits } in
    let values = segments_mpd c.in_ok-mpd-in-Mpd.mpd in
    first_listed terms values c.in-Mpd.now c.answers_allow_listings.ensures.counted
    (first_appends terms c.args.frame.now) (Ok c.in_ok-session-in-Mpd.field-0)
    (first_read terms c.args.frame.now c.in-Mpd.now c.in-Mpd.body values c.in-Mpd.is c.in_ok-mpd-in-Mpd.ensures.mpd)
    c.in_ok-session-in-Mpd.ensures.state

pub returns-in_ok-session-in-Mpd-clause-first : goal.returns-in_ok-session-in-Mpd-clause-first
returns-in_ok-session-in-Mpd-clause-first g c =
    first_one (record { url = c.args.url.now; digits = c.args.digits })
    (segments_mpd c.in_ok-mpd-in-Mpd.mpd) c.in-Mpd.now (Ok c.in_ok-session-in-Mpd.field-0)
    c.in_ok-session-in-Mpd.ensures.state
