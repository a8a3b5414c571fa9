use Rattle.laws_of_jobs.proofs.TimedHistory as history
use Rattle.laws_of_jobs.proofs.timed_rounds.timed_runs_list_their_playlists.Goals as goal

pub returns : goal.returns
returns c =
    history.list_playlists c.what_is_read_is_bounded.ensures c.timed_playlists_are_listed.ensures c.timed_runs_go_on.ensures
    c.timed_periods_are_in_step.ensures
