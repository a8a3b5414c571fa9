use Rattle.laws_of_publishing.proofs.Going.{nothing_comes_again, nothing_old_comes}
use Rattle.laws_of_publishing.proofs.lists.nothing_is_published_twice.Goals as goal

pub returns-clause-again : goal.returns-clause-again
returns-clause-again c = nothing_comes_again

pub returns-clause-old : goal.returns-clause-old
returns-clause-old c = nothing_old_comes
