use Rattle.bridge_reach.proofs.Agreed.{differ_is_apart, done_agrees}
use Rattle.bridge_reach.proofs.laws.what_agrees_has_the_files_times.Goals as goal

pub returns-clause-done : goal.returns-clause-done
returns-clause-done c = done_agrees

pub returns-clause-differ : goal.returns-clause-differ
returns-clause-differ c = differ_is_apart
