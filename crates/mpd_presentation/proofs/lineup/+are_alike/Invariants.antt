use Rattle.mpd_presentation.proofs.lineup.+are_alike.Given as goal
use Rattle.std.proofs.Common.{length}

abbrev pub decreases-are_alike : goal.decreases-are_alike
decreases-are_alike l = length l.ones.now
