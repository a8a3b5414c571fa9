use Rattle.iso_time.proofs.WrittenLemmas.{durations_again}
use Rattle.iso_time.proofs.laws.durations_are_read_again.Goals as goal

pub returns : goal.returns
returns c = durations_again
