use Rattle.differences.proofs.Opened.{have_sections}
use Rattle.differences.proofs.laws.presentations_have_sections.Goals as goal

pub returns : goal.returns
returns c p = have_sections p
