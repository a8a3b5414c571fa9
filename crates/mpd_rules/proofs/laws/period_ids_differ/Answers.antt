use Rattle.mpd_rules.proofs.Ids.{period_ids_differ}
use Rattle.mpd_rules.proofs.laws.period_ids_differ.Goals as goal

pub returns : goal.returns
returns c = period_ids_differ
