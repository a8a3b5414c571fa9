use Rattle.iso_time.proofs.DurationLemmas.{denoted}
use Rattle.iso_time.proofs.laws.durations_are_denoted.Goals as goal

pub returns : goal.returns
returns c = denoted
