use Rattle.template_ids.proofs.Paths.{goes_on}
use Rattle.template_ids.proofs.laws.names_go_on.Goals as goal

pub returns : goal.returns
returns c = goes_on
