use Rattle.byte_scan.proofs.lanes.yes_bits.Goals as goal
use Rattle.std.proofs.{Common.{eqb, not, arith, w8}, lemmas.Simd.bitmask_splat}

pub returns : goal.returns
returns c = bitmask_splat w8 (λ a b. not (eqb a b)) c.args.lanes 32 0 c.fits-lanes.0 (omega arith)
