use Rattle.bridge_courses.proofs.ExecutionLaws.{done_is_whole}
use Rattle.bridge_courses.proofs.laws.done_is_whole.Goals as goal

pub returns : goal.returns
returns c = done_is_whole
