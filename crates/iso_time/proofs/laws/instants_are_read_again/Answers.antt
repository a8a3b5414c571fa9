use Rattle.iso_time.proofs.WrittenLemmas.{instants_again}
use Rattle.iso_time.proofs.laws.instants_are_read_again.Goals as goal

pub returns : goal.returns
returns c = instants_again
