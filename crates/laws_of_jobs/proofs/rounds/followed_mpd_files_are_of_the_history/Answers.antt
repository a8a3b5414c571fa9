use Rattle.laws_of_jobs.proofs.RoundRuns.{files_are_of_the_history}
use Rattle.laws_of_jobs.proofs.rounds.followed_mpd_files_are_of_the_history.Goals as goal

pub returns : goal.returns
returns c =
    let mpd = c.the_mpd_is_of_the_accepted_rounds.ensures in
    files_are_of_the_history mpd.mpd mpd.file mpd.none
