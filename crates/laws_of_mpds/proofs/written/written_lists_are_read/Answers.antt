use Rattle.laws_of_mpds.proofs.Lists.{lists_are_read}
use Rattle.laws_of_mpds.proofs.written.written_lists_are_read.Goals as goal

pub returns : goal.returns
returns c = lists_are_read
