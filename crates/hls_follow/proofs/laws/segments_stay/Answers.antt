use Rattle.hls_follow.proofs.Histories as histories
use Rattle.hls_follow.proofs.laws.segments_stay.Goals as goal

pub returns : goal.returns
returns c = histories.segments_stay c.rules_are_sentences.ensures
