use Rattle.fragment_times.proofs.PeriodStarts.{starts_are_before}
use Rattle.fragment_times.proofs.laws.periods_start_before_their_segments.Goals as goal

pub returns : goal.returns
returns c = starts_are_before
