use Rattle.segment_forms.proofs.laws.templates_name.Goals as goal
use Rattle.segment_forms.proofs.TemplateLemmas.{each_named}

pub returns : goal.returns
returns c = each_named
