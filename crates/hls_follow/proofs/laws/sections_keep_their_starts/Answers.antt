use Rattle.hls_follow.proofs.Staying as staying
use Rattle.hls_follow.proofs.laws.sections_keep_their_starts.Goals as goal

pub returns : goal.returns
returns c = staying.sections_stay
