use Rattle.mpd_rules.proofs.Readable.{starts_are_readable}
use Rattle.mpd_rules.proofs.laws.starts_are_readable.Goals as goal

pub returns : goal.returns
returns c = starts_are_readable
