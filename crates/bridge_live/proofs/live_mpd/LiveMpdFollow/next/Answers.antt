use Rattle.bridge_live.proofs.LiveFrames.{frames_read}
use Rattle.bridge_live.proofs.live_mpd.LiveMpdFollow.next.Goals as goal

pub returns-clause-frame : goal.returns-clause-frame
returns-clause-frame g c =
    frames_read c.frames_follow.ensures c.args.at.now c.read_frame.new.at c.read_frame.result (g.I.Source.remaining c.args.input.now)
    (g.I.Source.remaining c.read_frame.new.input) c.read_frame.ensures.frame c.read_frame.ensures.left
