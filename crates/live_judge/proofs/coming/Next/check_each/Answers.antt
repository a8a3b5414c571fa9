use Rattle.live_judge.proofs.coming.Next.check_each.Goals as goal
use Rattle.std.proofs.lemmas.Result.{err_from_is_err_and}
use Rattle.live_judge.proofs.Firsts.{stopped}

pub returns-in_err-check : goal.returns-in_err-check
returns-in_err-check c =
    let p = err_from_is_err_and c.from_residual.result c.from_residual.ensures.1 in
    rw (p.1, p.2) (stopped c.args.rule c.args.self.now c.of.result c.loop-track.track c.in_err-check.field-0.0 c.of.ensures.next
    c.of.ensures.index c.of.ensures.there c.loop-track.invariant c.in_err-check.ensures)
