use Rattle.live_session.proofs.session.Session.reset.Goals as goal
use Rattle.live_session.proofs.Refusing.{next_by}

pub returns-clause-next : goal.returns-clause-next
returns-clause-next g c = next_by _ _ _ _ _ c.follow.result c.follow.ensures
