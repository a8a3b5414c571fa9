use Rattle.hls_lines.proofs.LineLaws.{file_faults_are_in_order, first_control_is_first}
use Rattle.hls_lines.proofs.laws.file_faults_are_in_order.Goals as goal

pub returns : goal.returns
returns c = record { order = file_faults_are_in_order; control = first_control_is_first }
