use Rattle.laws_of_jobs.proofs.Ends.{never_drift}
use Rattle.laws_of_jobs.proofs.follow.followed_durations_never_drift.Goals as goal

pub returns : goal.returns
returns c = never_drift c.histories_go_on.ensures.accepted c.accepted_never_drift.ensures.sums
