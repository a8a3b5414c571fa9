use Rattle.std.proofs.Common.{ltb}
use Rattle.byte_scan.proofs.LaneLemmas.{select_compared}
use Rattle.byte_scan.proofs.lanes.below.Goals as goal

pub returns : goal.returns
returns c = select_compared ltb 32 c.args.lanes c.args.bound c.fits-lanes.0
