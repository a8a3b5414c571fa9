use Rattle.iso_time.proofs.PaddedLemmas.{fraction_floor}
use Rattle.iso_time.proofs.laws.fractions_are_rounded_down.Goals as goal

pub returns : goal.returns
returns c = fraction_floor
