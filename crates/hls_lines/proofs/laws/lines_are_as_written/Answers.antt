use Rattle.hls_lines.proofs.LineLaws.{lines_are_said}
use Rattle.hls_lines.proofs.laws.lines_are_as_written.Goals as goal

pub returns : goal.returns
returns c = lines_are_said
