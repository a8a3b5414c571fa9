use Rattle.bridge_reach.proofs.Timely.{written_timed}
use Rattle.bridge_reach.proofs.laws.what_is_written_has_the_files_times.Goals as goal

pub returns : goal.returns
returns c = written_timed
