use Rattle.bridge_courses.proofs.StepLaws.{run_leaves, read_fault_leaves}
use Rattle.bridge_courses.proofs.laws.an_execution_leaves_its_steps.Goals as goal

pub returns-clause-steps : goal.returns-clause-steps
returns-clause-steps c = run_leaves

pub returns-clause-read_fault : goal.returns-clause-read_fault
returns-clause-read_fault c = read_fault_leaves
