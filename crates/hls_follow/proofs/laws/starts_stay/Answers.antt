use Rattle.hls_follow.proofs.Staying as staying
use Rattle.hls_follow.proofs.laws.starts_stay.Goals as goal

pub returns : goal.returns
returns c = staying.starts_stay
