use Rattle.laws_of_jobs.proofs.Ends.{follow_leaves}
use Rattle.laws_of_jobs.proofs.follow.a_followed_execution_leaves_its_history.Goals as goal

pub returns : goal.returns
returns c =
    let leaves = c.an_execution_leaves_its_steps.ensures in
    follow_leaves c.followed_files_are_of_the_history.ensures leaves.steps c.a_verdict_keeps_the_steps.ensures leaves.read_fault
