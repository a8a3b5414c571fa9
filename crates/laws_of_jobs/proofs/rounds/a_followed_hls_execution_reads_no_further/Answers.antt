use Rattle.laws_of_jobs.proofs.Unread.{follow_hls_reads}
use Rattle.laws_of_jobs.proofs.rounds.a_followed_hls_execution_reads_no_further.Goals as goal

pub returns : goal.returns
returns c = let reads = c.an_execution_reads_no_further.ensures in
    follow_hls_reads c.followed_mpd_files_are_of_the_history.ensures reads.steps reads.read_fault
