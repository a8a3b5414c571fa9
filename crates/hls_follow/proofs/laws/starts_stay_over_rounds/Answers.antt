use Rattle.hls_follow.proofs.Histories as histories
use Rattle.hls_follow.proofs.laws.starts_stay_over_rounds.Goals as goal

pub returns : goal.returns
returns c = histories.starts_stay
