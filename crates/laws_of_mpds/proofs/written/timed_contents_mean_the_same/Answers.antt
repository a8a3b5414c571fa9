use Rattle.laws_of_mpds.proofs.Contents.{timed_contents}
use Rattle.laws_of_mpds.proofs.written.timed_contents_mean_the_same.Goals as goal

pub returns : goal.returns
returns c = timed_contents c.templates_name.ensures c.literals_name.ensures
