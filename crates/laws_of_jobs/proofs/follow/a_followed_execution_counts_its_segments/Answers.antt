use Rattle.laws_of_jobs.proofs.Counted.{counts_segments}
use Rattle.laws_of_jobs.proofs.follow.a_followed_execution_counts_its_segments.Goals as goal

pub returns : goal.returns
returns c = counts_segments
