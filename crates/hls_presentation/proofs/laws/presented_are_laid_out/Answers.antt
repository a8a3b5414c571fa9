use Rattle.hls_presentation.proofs.Laid.{presented_are_laid_out}
use Rattle.hls_presentation.proofs.laws.presented_are_laid_out.Goals as goal

pub returns : goal.returns
returns c = presented_are_laid_out
