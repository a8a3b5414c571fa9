use Rattle.iso_time.proofs.InstantLemmas.{denoted}
use Rattle.iso_time.proofs.laws.instants_are_denoted.Goals as goal

pub returns : goal.returns
returns c = denoted
