use Rattle.laws_of_jobs.proofs.RoundRuns.{follow_hls_leaves}
use Rattle.laws_of_jobs.proofs.rounds.a_followed_hls_execution_leaves_its_history.Goals as goal

pub returns : goal.returns
returns c =
    let leaves = c.an_execution_leaves_its_steps.ensures in
    follow_hls_leaves c.followed_mpd_files_are_of_the_history.ensures leaves.steps c.a_verdict_keeps_the_steps.ensures leaves.read_fault
