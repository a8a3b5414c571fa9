use Rattle.laws_of_jobs.proofs.TimedFollowing.{files_are}
use Rattle.laws_of_jobs.proofs.timed_rounds.timed_mpd_files_are_of_the_history.Goals as goal

pub returns : goal.returns
returns c =
    let mpd = c.the_timed_mpd_is_of_the_accepted_rounds.ensures in
    files_are mpd.mpd mpd.file mpd.none
