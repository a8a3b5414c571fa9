use Rattle.std.proofs.Common.{ap, ◌∙◌, map, not, eqb}
use Rattle.std.specs.Simd.Lanes.{mask_l}
use Rattle.byte_scan.proofs.LaneLemmas.{yes_lanes}
use Rattle.byte_scan.proofs.scan.hits.Goals as goal

pub returns : goal.returns
returns g c = c.yes_bits.ensures ∙ ap mask_l (ap (map (λ lane. not (eqb lane 0))) c.flags.ensures
    ∙ yes_lanes (g.T.ByteTest.passes c.args.test.now) c.args.block.now)
