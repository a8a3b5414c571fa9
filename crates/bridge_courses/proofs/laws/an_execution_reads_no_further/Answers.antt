use Rattle.bridge_courses.proofs.InputLaws.{read_fault_reads_fewer, run_reads, verdict_reads_all}
use Rattle.bridge_courses.proofs.laws.an_execution_reads_no_further.Goals as goal

pub returns-clause-steps : goal.returns-clause-steps
returns-clause-steps c = run_reads

pub returns-clause-verdict : goal.returns-clause-verdict
returns-clause-verdict c = verdict_reads_all

pub returns-clause-read_fault : goal.returns-clause-read_fault
returns-clause-read_fault c = read_fault_reads_fewer
