use Rattle.box_reader.proofs.Fronts.{fronts}
use Rattle.box_reader.proofs.laws.fronts_tell.Goals as goal

pub returns : goal.returns
returns c = fronts
