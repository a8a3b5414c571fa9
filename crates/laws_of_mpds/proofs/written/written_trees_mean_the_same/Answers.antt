use Rattle.laws_of_mpds.proofs.Given.{trees_mean}
use Rattle.laws_of_mpds.proofs.written.written_trees_mean_the_same.Goals as goal

pub returns : goal.returns
returns c = trees_mean c.templates_name.ensures c.literals_name.ensures
