use Rattle.bridge_courses.proofs.StepLaws.{verdict_tells, read_fault_tells, write_fault_tells, run_tells_fronts}
use Rattle.bridge_courses.proofs.laws.an_execution_tells_its_steps.Goals as goal

pub returns-clause-verdict : goal.returns-clause-verdict
returns-clause-verdict c = verdict_tells

pub returns-clause-read_fault : goal.returns-clause-read_fault
returns-clause-read_fault c = read_fault_tells

pub returns-clause-write_fault : goal.returns-clause-write_fault
returns-clause-write_fault c = write_fault_tells

pub returns-clause-fronts : goal.returns-clause-fronts
returns-clause-fronts c = run_tells_fronts
