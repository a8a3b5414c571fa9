use Rattle.iso_time.proofs.InstantLemmas.{one_spelling}
use Rattle.iso_time.proofs.laws.instants_have_one_spelling.Goals as goal

pub returns : goal.returns
returns c = one_spelling
