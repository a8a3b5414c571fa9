use Rattle.mpd_text.proofs.references.+common.Given as goal
use Rattle.std.proofs.Common.{length}

abbrev pub decreases-common : goal.decreases-common
decreases-common l = length l.word.now
