use Rattle.publish_core.proofs.Calm.{calm_runs}
use Rattle.publish_core.proofs.laws.calm_runs_are_decided.Goals as goal

pub returns : goal.returns
returns g c = calm_runs g.F.Store
