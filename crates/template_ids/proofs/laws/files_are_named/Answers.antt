use Rattle.template_ids.proofs.FileNames.{each_names}
use Rattle.template_ids.proofs.laws.files_are_named.Goals as goal

pub returns : goal.returns
returns c = each_names
