use Rattle.laws_of_mpds.proofs.Contents.{forms_give}
use Rattle.laws_of_mpds.proofs.written.forms_give_the_same.Goals as goal

pub returns : goal.returns
returns c = forms_give c.templates_name.ensures c.literals_name.ensures
