use Rattle.mpd_tree.proofs.laws.one_reading.Goals as goal
use Rattle.mpd_tree.proofs.OneReading.{one_reading}

pub returns : goal.returns
returns c = one_reading
