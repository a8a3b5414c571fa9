use Rattle.laws_of_mpds.proofs.Timed as timed
use Rattle.laws_of_mpds.proofs.written.timed_texts_mean_their_times.Goals as goal

pub returns : goal.returns
returns c = timed.texts_mean c.templates_name.ensures c.literals_name.ensures c.printed_trees_are_read.ensures
