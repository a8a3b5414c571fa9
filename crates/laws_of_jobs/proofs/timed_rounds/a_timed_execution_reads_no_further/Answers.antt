use Rattle.laws_of_jobs.proofs.Unread.{timed_run_reads}
use Rattle.laws_of_jobs.proofs.timed_rounds.a_timed_execution_reads_no_further.Goals as goal

pub returns : goal.returns
returns c = let reads = c.an_execution_reads_no_further.ensures in
    timed_run_reads c.timed_mpd_files_are_of_the_history.ensures reads.steps reads.read_fault
