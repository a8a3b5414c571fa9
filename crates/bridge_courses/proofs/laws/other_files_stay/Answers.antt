use Rattle.bridge_courses.proofs.ExecutionLaws.{others_stay}
use Rattle.bridge_courses.proofs.laws.other_files_stay.Goals as goal

pub returns : goal.returns
returns c = others_stay
