use Rattle.std.proofs.Common.{eqb}
use Rattle.byte_scan.proofs.LaneLemmas.{select_compared}
use Rattle.byte_scan.proofs.lanes.equal_to.Goals as goal

pub returns : goal.returns
returns c = select_compared eqb 32 c.args.lanes c.args.byte c.fits-lanes.0
