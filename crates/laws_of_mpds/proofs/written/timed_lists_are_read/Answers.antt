use Rattle.laws_of_mpds.proofs.Lists.{timed_lists}
use Rattle.laws_of_mpds.proofs.written.timed_lists_are_read.Goals as goal

pub returns : goal.returns
returns c = timed_lists
