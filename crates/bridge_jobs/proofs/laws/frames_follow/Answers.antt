use Rattle.bridge_jobs.proofs.Follows.{frames_follow}
use Rattle.bridge_jobs.proofs.laws.frames_follow.Goals as goal

pub returns : goal.returns
returns c = frames_follow
