use Rattle.laws_of_jobs.proofs.JudgedFrames.{frames_are_of_the_history}
use Rattle.laws_of_jobs.proofs.follow.frames_are_judged_by_the_history.Goals as goal

pub returns : goal.returns
returns c = let h = c.histories_go_on.ensures in frames_are_of_the_history h.begin h.goes_on h.refuse
