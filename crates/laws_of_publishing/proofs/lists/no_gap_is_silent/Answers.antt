use Rattle.laws_of_publishing.proofs.Rising.{no_silent_gap}
use Rattle.laws_of_publishing.proofs.lists.no_gap_is_silent.Goals as goal

pub returns : goal.returns
returns c = no_silent_gap
