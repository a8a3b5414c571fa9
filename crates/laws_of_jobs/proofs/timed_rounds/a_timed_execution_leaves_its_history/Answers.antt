use Rattle.laws_of_jobs.proofs.TimedFollowing.{leaves}
use Rattle.laws_of_jobs.proofs.timed_rounds.a_timed_execution_leaves_its_history.Goals as goal

pub returns : goal.returns
returns c =
    let ends = c.an_execution_leaves_its_steps.ensures in
    leaves c.the_timed_mpd_is_of_the_accepted_rounds.ensures.course c.timed_mpd_files_are_of_the_history.ensures ends.steps
    c.a_verdict_keeps_the_steps.ensures ends.read_fault
