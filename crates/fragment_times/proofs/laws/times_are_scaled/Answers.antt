use Rattle.fragment_times.proofs.Scaled.{times_are_scaled}
use Rattle.fragment_times.proofs.laws.times_are_scaled.Goals as goal

pub returns : goal.returns
returns c = times_are_scaled
