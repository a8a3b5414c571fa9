use Rattle.publish_core.proofs.Proper.{are_proper}
use Rattle.publish_core.proofs.laws.jobs_are_proper.Goals as goal

pub returns : goal.returns
returns c = are_proper
