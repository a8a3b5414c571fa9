use Rattle.meaning.proofs.DifferenceLemmas.{Finds-first}
use Rattle.meaning.proofs.laws.agreeing_has_no_difference.Goals as goal

pub returns : goal.returns
returns c unit a b = Finds-first unit a b
