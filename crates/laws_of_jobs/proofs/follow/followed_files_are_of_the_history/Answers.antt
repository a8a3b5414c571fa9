use Rattle.laws_of_jobs.proofs.Reloads.{files_are_of_the_history}
use Rattle.laws_of_jobs.proofs.follow.followed_files_are_of_the_history.Goals as goal

pub returns : goal.returns
returns c =
    let h = c.histories_go_on.ensures in
    files_are_of_the_history h.begin h.goes_on h.refuse c.presentations_show_their_mpd.ensures.few
