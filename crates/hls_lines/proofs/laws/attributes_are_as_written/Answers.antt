use Rattle.hls_lines.proofs.Grammar.{read_are_written}
use Rattle.hls_lines.proofs.laws.attributes_are_as_written.Goals as goal

pub returns : goal.returns
returns c = read_are_written
