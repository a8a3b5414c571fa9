use Rattle.bridge_reach.proofs.TimedAccepted.{courses_are, file_is, leave_an_mpd, none_write}
use Rattle.bridge_reach.proofs.round_laws.the_timed_mpd_is_of_the_accepted_rounds.Goals as goal

pub returns-clause-course : goal.returns-clause-course
returns-clause-course c = courses_are

pub returns-clause-mpd : goal.returns-clause-mpd
returns-clause-mpd c = leave_an_mpd

pub returns-clause-file : goal.returns-clause-file
returns-clause-file c = file_is

pub returns-clause-none : goal.returns-clause-none
returns-clause-none c = none_write
