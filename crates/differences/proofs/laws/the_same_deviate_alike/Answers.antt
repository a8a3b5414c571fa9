use Rattle.differences.proofs.Alike.{same_deviate_alike, same_greatest}
use Rattle.differences.proofs.laws.the_same_deviate_alike.Goals as goal

pub returns-clause-alike : goal.returns-clause-alike
returns-clause-alike c = same_deviate_alike

pub returns-clause-greatest : goal.returns-clause-greatest
returns-clause-greatest c = same_greatest
