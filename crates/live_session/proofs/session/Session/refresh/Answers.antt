use Rattle.live_session.proofs.session.Session.refresh.Goals as goal
use Rattle.live_session.proofs.Refusing.{next_by}

pub returns-in-Some-clause-next : goal.returns-in-Some-clause-next
returns-in-Some-clause-next g c =
    rw c.in-Some.is (next_by _ _ _ _ _ c.follow.result c.follow.ensures)

pub returns-in-None-clause-next : goal.returns-in-None-clause-next
returns-in-None-clause-next g c =
    rw c.in-None.is (next_by _ _ _ _ _ c.follow-in-None.result c.follow-in-None.ensures)
