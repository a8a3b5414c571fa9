use Rattle.std.proofs.Common.{refl}
use Rattle.bridge_steps.proofs.{Grown.none_grown, Unplaced.{memory_worked, stays}}
use Rattle.bridge_reach.proofs.follow_hls.time_master.Goals as goal

pub returns-in-Err-clause-runs : goal.returns-in-Err-clause-runs
returns-in-Err-clause-runs g c =
    record { work = λ course is. memory_worked course _; never_falls = stays _; told = none_grown _ _ refl }

pub returns-in-Ok-clause-runs : goal.returns-in-Ok-clause-runs
returns-in-Ok-clause-runs g c = rw c.in-Ok.ensures at c.follow.ensures.runs
