use Rattle.hls_follow.proofs.OwnHistories as histories
use Rattle.hls_follow.proofs.timed_laws.timed_starts_stay.Goals as goal

pub returns : goal.returns
returns c = histories.starts_stay
