use Rattle.laws_of_publishing.proofs.Again.{again_is_unchanged}
use Rattle.laws_of_publishing.proofs.lists.a_publication_again_changes_nothing.Goals as goal

pub returns : goal.returns
returns c = again_is_unchanged
