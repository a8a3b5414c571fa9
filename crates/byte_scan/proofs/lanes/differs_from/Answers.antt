use Rattle.std.proofs.Common.{eqb, not}
use Rattle.byte_scan.proofs.LaneLemmas.{select_compared}
use Rattle.byte_scan.proofs.lanes.differs_from.Goals as goal

pub returns : goal.returns
returns c = select_compared (λ a b. not (eqb a b)) 32 c.args.lanes c.args.byte c.fits-lanes.0
