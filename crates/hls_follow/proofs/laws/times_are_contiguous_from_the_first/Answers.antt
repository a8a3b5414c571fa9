use Rattle.hls_follow.proofs.Histories as histories
use Rattle.hls_follow.proofs.laws.times_are_contiguous_from_the_first.Goals as goal

pub returns : goal.returns
returns c = histories.times_are c.rules_are_sentences.ensures
