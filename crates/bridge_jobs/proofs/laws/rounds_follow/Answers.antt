use Rattle.bridge_jobs.proofs.RoundsInTurn.{rounds_follow}
use Rattle.bridge_jobs.proofs.laws.rounds_follow.Goals as goal

pub returns : goal.returns
returns c = rounds_follow
