use Rattle.timeline.proofs.time_walk.TimeWalk.peek.Goals as goal
use Rattle.std.proofs.Common.{arith}
use Rattle.timeline.proofs.WalkLemmas.{first_left}

pub returns-clause-next : goal.returns-clause-next
returns-clause-next c =
    first_left c.self.inside c.args.self.now c.self.view_is c.self.invariant c.in_ok-current.current c.in_ok-current.was
    (omega (arith, c.if-self-eq0.false))
