use Rattle.bridge_report.proofs.Commands.{commands_read_first, read_fault_keeps}
use Rattle.bridge_report.proofs.laws.commands_read_before_they_write.Goals as goal

pub returns-clause-first : goal.returns-clause-first
returns-clause-first c = commands_read_first

pub returns-clause-read_fault : goal.returns-clause-read_fault
returns-clause-read_fault c = read_fault_keeps
