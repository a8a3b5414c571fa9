use Rattle.segment_forms.proofs.laws.literals_name.Goals as goal
use Rattle.segment_forms.proofs.TemplateLemmas.{each_literal}

pub returns : goal.returns
returns c = each_literal
