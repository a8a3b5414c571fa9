use Rattle.hls_lines.proofs.Grammar.{written_one_way}
use Rattle.hls_lines.proofs.laws.attributes_are_written_one_way.Goals as goal

pub returns : goal.returns
returns c = written_one_way
