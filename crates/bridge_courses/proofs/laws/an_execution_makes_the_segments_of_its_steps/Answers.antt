use Rattle.bridge_courses.proofs.StepLaws.{run_makes}
use Rattle.bridge_courses.proofs.laws.an_execution_makes_the_segments_of_its_steps.Goals as goal

pub returns : goal.returns
returns c = run_makes
