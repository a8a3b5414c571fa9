use Rattle.hls_follow.proofs.follow.Follow.view.Goals as goal

pub returns-clause-live : goal.returns-clause-live
returns-clause-live c = (c.self.invariant c.in-Some.followed c.in-Some.is).live
