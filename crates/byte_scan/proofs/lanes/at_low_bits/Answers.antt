use Rattle.byte_scan.proofs.lanes.at_low_bits.Goals as goal
use Rattle.std.proofs.{Common.{◌≡◌, ℕ, ◌%◌, List, get_or, map, bit_and, ap, ◌∙◌, arith}, lemmas.Nat.and_mask, lemmas.Simd.zip2_splat}
use Rattle.byte_scan.proofs.LookupLemmas.{low_ok, looked_up}

pub swizzle : goal.swizzle
swizzle c = low_ok c.args.lanes (record { long = c.fits-lanes.0; each = c.fits-lanes.1 })

low_bits : (s v : List ℕ) → map (λ x. get_or s (bit_and x 15) 0) v ≡ map (λ x. get_or s (x % 16) 0) v
low_bits s v = ap (λ (f : ℕ → ℕ). map (λ x. get_or s (f x) 0) v) (λ i x. and_mask x 4 i)

pub returns : goal.returns
returns c =
    let v = c.args.lanes in
    looked_up c.args.table (λ x. bit_and x 15) v _ c.twice.result (omega arith) (record { long = c.fits-lanes.0; each = c.fits-lanes.1 })
    (zip2_splat bit_and v 32 15 c.fits-lanes.0)
    (λ x h. omega (arith, and_mask x 4)) c.twice.ensures ∙ low_bits c.args.table v
