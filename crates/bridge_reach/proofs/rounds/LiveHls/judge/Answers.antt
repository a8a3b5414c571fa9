use Rattle.bridge_report.specs.Refusals.{refused_in}
use Rattle.bridge_reach.proofs.Rounding.{accepted_by, counted_by, kept_by, refused_by, unread}
use Rattle.bridge_reach.proofs.rounds.LiveHls.judge.Goals as goal

pub returns-in-Ok-clause-accepted : goal.returns-in-Ok-clause-accepted
returns-in-Ok-clause-accepted c =
    accepted_by c.args.self.now c.args.live.now c.take.new.live c.args.round.now c.in-Ok.medias c.in-Ok.ensures.medias
    c.take.result c.take.ensures.next c.take.ensures.appended

pub returns-in-Ok-clause-refused : goal.returns-in-Ok-clause-refused
returns-in-Ok-clause-refused c =
    refused_by c.args.self.now c.args.live.now c.take.new.live c.args.round.now c.in-Ok.medias c.in-Ok.ensures.medias
    c.take.result c.take.ensures.next

pub returns-in-Ok-clause-counts : goal.returns-in-Ok-clause-counts
returns-in-Ok-clause-counts c =
    counted_by c.args.self.now c.args.live.now c.take.new.live c.args.round.now c.in-Ok.medias c.in-Ok.ensures.medias
    c.take.result c.take.ensures.next

pub returns-in-Ok-clause-kept : goal.returns-in-Ok-clause-kept
returns-in-Ok-clause-kept c =
    kept_by c.args.self.now c.args.live.now c.take.new.live c.args.round.now c.in-Ok.medias c.in-Ok.ensures.medias
    c.take.result c.take.ensures.next c.take.ensures.same c.requires.kept

pub returns-in-Err-clause-refused : goal.returns-in-Err-clause-refused
returns-in-Err-clause-refused c =
    unread c.args.self.now c.args.live.now c.args.round.now (refused_in c.in-Err.stop) c.in-Err.ensures.medias
