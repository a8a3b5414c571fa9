use Rattle.bridge_courses.proofs.ExecutionLaws.{read_fault_keeps_files}
use Rattle.bridge_courses.proofs.laws.a_read_fault_keeps_the_files.Goals as goal

pub returns : goal.returns
returns c = read_fault_keeps_files
