use Rattle.hls_follow.proofs.Staying as staying
use Rattle.hls_follow.proofs.laws.numbers_keep_their_times.Goals as goal

pub returns : goal.returns
returns c = staying.numbers_stay
