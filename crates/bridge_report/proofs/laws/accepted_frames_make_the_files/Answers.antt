use Rattle.bridge_report.proofs.FollowedLaws.{files_are, file_is}
use Rattle.bridge_report.proofs.laws.accepted_frames_make_the_files.Goals as goal

pub returns-clause-files : goal.returns-clause-files
returns-clause-files g c = files_are

pub returns-clause-file : goal.returns-clause-file
returns-clause-file g c = file_is
