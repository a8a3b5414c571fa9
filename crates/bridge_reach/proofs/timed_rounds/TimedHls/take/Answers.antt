use Rattle.std.proofs.Common.{◌≡◌, Some, IfSome, subst}
use Rattle.bridge_report.specs.FrameStops.{frame_text, stop_text}
use Rattle.bridge_reach.proofs.Timing.{live_refused, taken_so, times_refused}
use Rattle.bridge_reach.proofs.timed_rounds.TimedHls.take.Goals as goal

pub returns-in-Ok-clause-next : goal.returns-in-Ok-clause-next
returns-in-Ok-clause-next g c = λ all is.
    taken_so c.args.self.now c.args.live.now c.args.now c.args.medias all _ (c.in-Ok.ensures.next all is)

pub returns-in-Err-Live-clause-next : goal.returns-in-Err-Live-clause-next
returns-in-Err-Live-clause-next g c = λ all is.
    live_refused c.args.self.now c.args.live.now c.args.now c.args.medias all c.in-Err-Live.fault (frame_text c.of.result)
    (subst (λ stop. IfSome (frame_text c.of.result) (λ text. stop_text stop ≡ Some text)) c.of_live.ensures c.of.ensures.told)
    (rw c.in-Err-Live.field-0-is at (c.in-Err-Live.ensures.next all is))

pub returns-in-Err-Times-clause-next : goal.returns-in-Err-Times-clause-next
returns-in-Err-Times-clause-next g c = λ all is.
    times_refused c.args.self.now c.args.live.now c.args.now c.args.medias all c.in-Err-Times.fault (frame_text c.untimed.result)
    c.untimed.ensures.told (rw c.in-Err-Times.field-0-is at (c.in-Err-Times.ensures.next all is))
