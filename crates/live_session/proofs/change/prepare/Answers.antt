use Rattle.live_session.proofs.{Accepting.live, Planning.{joined, judged_refused, planned}}
use Rattle.live_session.proofs.change.prepare.Goals as goal

pub judge-requires-clause-live : goal.judge-requires-clause-live
judge-requires-clause-live g c = live c.requires.session

pub plan_of-requires-clause-joined : goal.plan_of-requires-clause-joined
plan_of-requires-clause-joined g c =
    let is = c.in-Ok.ensures.next in
    joined c.in-Ok.next _ _ _ _ _ is.1 is.2 is.3 is.4 is.5 c.in-Ok.ensures.judged

pub returns-in-Err : goal.returns-in-Err
returns-in-Err g c =
    judged_refused _ _ _ _ _ c.requires.timely c.requires.presented c.in-Err.fault _ c.in-Err.ensures.judged

pub returns-in-Ok : goal.returns-in-Ok
returns-in-Ok g c =
    let is = c.in-Ok.ensures.next in
    planned c.in-Ok.next _ _ _ _ _ is.1 is.2 is.3 is.4 is.5 is.0 c.requires.timely c.requires.presented c.in-Ok.ensures.judged _ _
    c.plan_of.result c.plan_of.ensures
