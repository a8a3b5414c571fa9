use Rattle.byte_scan.proofs.lanes.at_high_bits.Goals as goal
use Rattle.std.proofs.{Common.{◌/◌, arith}, lemmas.Simd.zip2_splat}
use Rattle.byte_scan.proofs.LookupLemmas.{shifted, high_ok, looked_up}

pub swizzle : goal.swizzle
swizzle c = high_ok c.args.lanes (record { long = c.fits-lanes.0; each = c.fits-lanes.1 })

pub returns : goal.returns
returns c =
    let v = c.args.lanes in
    looked_up c.args.table (λ x. x / 16) v _ c.twice.result (omega arith) (record { long = c.fits-lanes.0; each = c.fits-lanes.1 })
    (zip2_splat shifted v 32 4 c.fits-lanes.0) (λ x h. omega arith) c.twice.ensures
