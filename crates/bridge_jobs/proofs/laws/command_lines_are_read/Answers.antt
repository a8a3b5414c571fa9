use Rattle.bridge_jobs.proofs.Read.{command_lines_read}
use Rattle.bridge_jobs.proofs.laws.command_lines_are_read.Goals as goal

pub returns : goal.returns
returns c = command_lines_read
