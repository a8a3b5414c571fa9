use Rattle.mpd_tree.proofs.node.NodeWalkIterator.next.Goals as goal
use Rattle.std.proofs.Common.{ap, length, arith}
use Rattle.mpd_tree.proofs.NodeLemmas.{left}

pub returns-clause-steps : goal.returns-clause-steps
returns-clause-steps c =
    let w = c.args.self.now in
    rw c.row.ensures.shows (left w.tree.now w.at w.end c.row.result c.row.ensures.row (omega arith) c.row.ensures.after)

pub returns-clause-goes : goal.returns-clause-goes
returns-clause-goes c =
    let w = c.args.self.now in
    let steps = left w.tree.now w.at w.end c.row.result c.row.ensures.row (omega arith) c.row.ensures.after in
    record { on = λ _. (tt, tt, omega (arith, ap length steps)); keeps = tt; rests = λ _. tt }
