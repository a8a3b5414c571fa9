use Rattle.bridge_reach.proofs.Accepted.{file_is, leave_an_mpd, none_write}
use Rattle.bridge_reach.proofs.round_laws.the_mpd_is_of_the_accepted_rounds.Goals as goal

pub returns-clause-mpd : goal.returns-clause-mpd
returns-clause-mpd c = leave_an_mpd

pub returns-clause-file : goal.returns-clause-file
returns-clause-file c = file_is c.accepted_frames_make_the_files.ensures.file

pub returns-clause-none : goal.returns-clause-none
returns-clause-none c = none_write c.accepted_frames_make_the_files.ensures.files
