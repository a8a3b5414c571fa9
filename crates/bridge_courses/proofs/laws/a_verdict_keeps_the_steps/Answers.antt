use Rattle.bridge_courses.proofs.ExecutionLaws.{verdict_keeps_steps}
use Rattle.bridge_courses.proofs.laws.a_verdict_keeps_the_steps.Goals as goal

pub returns : goal.returns
returns c = verdict_keeps_steps
