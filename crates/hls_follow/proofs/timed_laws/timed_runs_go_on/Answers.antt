use Rattle.hls_follow.proofs.OwnHistories as histories
use Rattle.hls_follow.proofs.timed_laws.timed_runs_go_on.Goals as goal

pub returns : goal.returns
returns c = histories.runs_go_on
