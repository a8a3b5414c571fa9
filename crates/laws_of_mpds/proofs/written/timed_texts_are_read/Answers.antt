use Rattle.laws_of_mpds.proofs.Timed as timed
use Rattle.laws_of_mpds.proofs.written.timed_texts_are_read.Goals as goal

pub returns : goal.returns
returns c = timed.texts_read c.printed_trees_are_read.ensures c.durations_are_read_again.ensures
