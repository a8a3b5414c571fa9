use Rattle.bridge_report.proofs.FollowedLaws.{mirrored}
use Rattle.bridge_report.proofs.laws.one_course_for_both_tellings.Goals as goal

pub returns : goal.returns
returns g c = mirrored
