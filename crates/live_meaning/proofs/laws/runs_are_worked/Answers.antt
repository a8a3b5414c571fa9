use Rattle.exact_time.specs.Floor.{floor_in, greatest_of}
use Rattle.timeline.specs.{Ratios.steps_within, Expansions.repeated}
use Rattle.live_meaning.specs.{States.state_with, Refusals.refusal_of}
use Rattle.live_meaning.proofs.laws.runs_are_worked.Goals as goal

pub returns : goal.returns
unfolding refusal_of repeated steps_within floor_in greatest_of state_with
returns c = assumption
