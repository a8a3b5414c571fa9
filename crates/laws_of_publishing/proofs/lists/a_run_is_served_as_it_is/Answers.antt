use Rattle.laws_of_publishing.proofs.Running.{runs_are_served}
use Rattle.laws_of_publishing.proofs.lists.a_run_is_served_as_it_is.Goals as goal

pub returns : goal.returns
returns c = runs_are_served
