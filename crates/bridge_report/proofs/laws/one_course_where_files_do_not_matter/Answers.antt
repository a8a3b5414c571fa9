use Rattle.bridge_report.proofs.FollowedLaws.{judged_alike}
use Rattle.bridge_report.proofs.laws.one_course_where_files_do_not_matter.Goals as goal

pub returns : goal.returns
returns g c = judged_alike
