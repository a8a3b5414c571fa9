use Rattle.iso_time.proofs.DurationLemmas.{one_spelling}
use Rattle.iso_time.proofs.laws.durations_have_one_spelling.Goals as goal

pub returns : goal.returns
returns c = one_spelling
