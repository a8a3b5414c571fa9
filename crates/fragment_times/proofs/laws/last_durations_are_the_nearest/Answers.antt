use Rattle.fragment_times.proofs.Nearest.{nearest_are_near}
use Rattle.fragment_times.proofs.laws.last_durations_are_the_nearest.Goals as goal

pub returns : goal.returns
returns c = nearest_are_near
