use Rattle.mpd_text.proofs.class.starts_name.Goals as goal
use Rattle.std.proofs.Common.{arith}
use Rattle.mpd_text.proofs.Roles.{starts_at}

pub returns : goal.returns
returns c = rw c.from.ensures (starts_at c.args.byte (omega arith))
