use Rattle.laws_of_mpds.proofs.Texts.{texts_mean}
use Rattle.laws_of_mpds.proofs.written.written_texts_mean_the_same.Goals as goal

pub returns : goal.returns
returns c = texts_mean c.templates_name.ensures c.literals_name.ensures c.printed_trees_are_read.ensures
