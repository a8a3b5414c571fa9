use Rattle.template_ids.proofs.template.Template.name.Goals as goal

pub returns : goal.returns
returns c = rw c.borrowed.ensures at c.name_with.ensures
