use Rattle.bridge_courses.proofs.ExecutionLaws.{is_complete}
use Rattle.bridge_courses.proofs.laws.a_calm_execution_is_complete.Goals as goal

pub returns : goal.returns
returns c = is_complete
