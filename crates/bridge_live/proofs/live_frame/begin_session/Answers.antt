use Rattle.live_meaning.specs.Refusals.{first_appended_by}
use Rattle.mpd_rules.specs.Views.{segments_mpd}
use Rattle.bridge_live.proofs.LiveFrames.{made_within}
use Rattle.bridge_live.proofs.live_frame.begin_session.Goals as goal

pub returns-in-Err-clause-made : goal.returns-in-Err-clause-made
returns-in-Err-clause-made g c =
    made_within (first_appended_by (record { url = c.args.url.now; digits = c.args.digits }) (segments_mpd c.args.mpd.now) c.args.now)
    c.args.steps.now c.begin.new.steps c.in-Err.fault c.in-Err.ensures.counted
