use Rattle.std.proofs.Common.{arith}
use Rattle.live_judge.proofs.Totals.{run_sum}
use Rattle.live_judge.proofs.times.NewRun.total.Goals as goal

pub returns : goal.returns
returns c = λ ds is. run_sum ds c.args.self.now c.from.result c.saturating_add.result is c.from.ensures
    (omega (arith, c.saturating_add.ensures))
