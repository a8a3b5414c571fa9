use Rattle.bridge_courses.proofs.ExecutionLaws.{read_fault_rose, write_fault_rose}
use Rattle.bridge_courses.proofs.laws.a_fault_has_a_cause.Goals as goal

pub returns-clause-read : goal.returns-clause-read
returns-clause-read c = read_fault_rose

pub returns-clause-write : goal.returns-clause-write
returns-clause-write c = write_fault_rose
