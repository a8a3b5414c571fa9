use Rattle.hls_follow.proofs.Contiguous as contiguous
use Rattle.hls_follow.proofs.laws.times_are_contiguous.Goals as goal

pub returns : goal.returns
returns c = contiguous.times_are c.rules_are_sentences.ensures
