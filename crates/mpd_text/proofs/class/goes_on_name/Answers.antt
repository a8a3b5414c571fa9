use Rattle.mpd_text.proofs.class.goes_on_name.Goals as goal
use Rattle.std.proofs.Common.{arith}
use Rattle.mpd_text.proofs.Roles.{goes_at}

pub returns : goal.returns
returns c = rw c.from.ensures (goes_at c.args.byte (omega arith))
