use Rattle.std.proofs.Common.{length}
use Rattle.dash_writer.proofs.sets.+standing_with.Given as goal

abbrev pub decreases-standing_with : goal.decreases-standing_with
decreases-standing_with l = length l.others.now
