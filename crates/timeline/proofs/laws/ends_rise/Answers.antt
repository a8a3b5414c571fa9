use Rattle.timeline.proofs.ExpansionsRise.{timelines_rise, durations_rise, lists_rise}
use Rattle.timeline.proofs.laws.ends_rise.Goals as goal

pub returns : goal.returns
returns c = record { timelines = timelines_rise; durations = durations_rise; lists = lists_rise }
