use Rattle.url_parts.proofs.LocalNames.{local_file}
use Rattle.url_parts.proofs.laws.name_of_local_file.Goals as goal

pub returns : goal.returns
returns c name own found = local_file _ _ name c.as_str.ensures.base c.as_str-2.ensures.address own found
