use Rattle.mpd_tree.proofs.laws.reads_back.Goals as goal
use Rattle.mpd_tree.proofs.ReadBack.{reads_back}

pub returns : goal.returns
returns c = reads_back
