use Rattle.laws_of_publishing.proofs.Going.{lists_go_on}
use Rattle.laws_of_publishing.proofs.lists.published_lists_go_on.Goals as goal

pub returns : goal.returns
returns c = lists_go_on
