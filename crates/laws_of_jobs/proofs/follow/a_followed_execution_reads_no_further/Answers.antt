use Rattle.laws_of_jobs.proofs.Unread.{follow_reads}
use Rattle.laws_of_jobs.proofs.follow.a_followed_execution_reads_no_further.Goals as goal

pub returns : goal.returns
returns c = let reads = c.an_execution_reads_no_further.ensures in
    follow_reads c.followed_files_are_of_the_history.ensures reads.steps reads.read_fault
