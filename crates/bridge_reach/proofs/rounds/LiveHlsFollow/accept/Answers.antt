use Rattle.std.proofs.Common.{◌≡◌, Some}
use Rattle.bridge_report.specs.FrameStops.{frame_text}
use Rattle.bridge_steps.proofs.Stopped.{stopped_so}
use Rattle.bridge_reach.specs.Rounds.{followed_rounds}
use Rattle.bridge_reach.proofs.rounds.LiveHlsFollow.accept.Goals as goal

pub returns-in-Ok-clause-accepted : goal.returns-in-Ok-clause-accepted
returns-in-Ok-clause-accepted g c = λ all is. c.in-Ok.ensures.accepted _

pub returns-in-Err-clause-refused : goal.returns-in-Err-clause-refused
returns-in-Err-clause-refused g c = λ all is.
    stopped_so c.in-Err.stop (frame_text c.of.result)
    (λ text. (followed_rounds c.args.self.now).refusal c.args.live.now c.args.round.now ≡ Some text) c.of.ensures.told
    c.in-Err.ensures.refused
