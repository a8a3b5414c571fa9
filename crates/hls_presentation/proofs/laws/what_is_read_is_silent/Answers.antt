use Rattle.hls_presentation.proofs.Silent.{read_are_silent}
use Rattle.hls_presentation.proofs.laws.what_is_read_is_silent.Goals as goal

pub returns : goal.returns
returns c = read_are_silent
