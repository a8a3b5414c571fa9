use Rattle.laws_of_mpds.proofs.Contents.{contents_are_meant}
use Rattle.laws_of_mpds.proofs.written.written_contents_mean_the_same.Goals as goal

pub returns : goal.returns
returns c = contents_are_meant c.templates_name.ensures c.literals_name.ensures
