use Rattle.bridge_report.specs.FrameStops.{frame_text}
use Rattle.bridge_reach.proofs.Timing.{accepted_by, kept_by, refused_by, unread_by}
use Rattle.bridge_reach.proofs.timed_rounds.TimedHlsFollow.accept.Goals as goal

pub returns-in-Ok-clause-accepted : goal.returns-in-Ok-clause-accepted
returns-in-Ok-clause-accepted g c = λ all is.
    accepted_by c.args.self.now c.args.live.now c.take.new.live c.args.round.now c.in-Ok.medias all c.in-Ok.ensures.medias c.take.result _
    (c.take.ensures.next all is) c.take.ensures.appended

pub returns-in-Ok-clause-refused : goal.returns-in-Ok-clause-refused
returns-in-Ok-clause-refused g c = λ all is.
    refused_by c.args.self.now c.args.live.now c.take.new.live c.args.round.now c.in-Ok.medias all c.in-Ok.ensures.medias c.take.result
    (c.take.ensures.next all is)

pub returns-in-Ok-clause-kept : goal.returns-in-Ok-clause-kept
returns-in-Ok-clause-kept g c =
    kept_by c.args.self.now c.args.live.now c.take.new.live c.take.result c.take.ensures.kept c.take.ensures.same c.requires.kept

pub returns-in-Err-clause-refused : goal.returns-in-Err-clause-refused
returns-in-Err-clause-refused g c = λ all is.
    unread_by c.args.self.now c.args.live.now c.args.round.now all c.in-Err.stop (frame_text c.of.result) c.of.ensures.told
    c.in-Err.ensures.medias
