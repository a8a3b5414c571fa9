use Rattle.std.proofs.Common.{◌≡◌, Some}
use Rattle.bridge_report.specs.FrameStops.{frame_text}
use Rattle.bridge_steps.proofs.Stopped.{stopped_so}
use Rattle.bridge_live.specs.LiveMpds.{told_by}
use Rattle.bridge_live.proofs.live_mpd.LiveMpdFollow.accept.Goals as goal

pub returns-in-Err-clause-refused : goal.returns-in-Err-clause-refused
returns-in-Err-clause-refused g c = λ all is.
    stopped_so c.in-Err.stop (frame_text c.of.result)
    (λ text. (told_by c.args.self.now).refusal c.args.live.now c.args.frame.now ≡ Some text) c.of.ensures.told c.in-Err.ensures.refused
