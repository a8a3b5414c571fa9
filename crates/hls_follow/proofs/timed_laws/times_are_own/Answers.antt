use Rattle.hls_follow.proofs.OwnHistories as histories
use Rattle.hls_follow.proofs.timed_laws.times_are_own.Goals as goal

pub returns : goal.returns
returns c = histories.times_are
