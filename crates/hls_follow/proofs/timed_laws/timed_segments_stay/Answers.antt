use Rattle.hls_follow.proofs.OwnStaying as staying
use Rattle.hls_follow.proofs.timed_laws.timed_segments_stay.Goals as goal

pub returns : goal.returns
returns c = staying.segments_stay c.rules_are_sentences.ensures
