use Rattle.mpd_tree.proofs.laws.no_memory.Goals as goal
use Rattle.mpd_tree.proofs.OneReading.{no_memory}

pub returns : goal.returns
returns c = no_memory
