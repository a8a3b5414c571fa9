use Rattle.byte_scan.proofs.set.ByteSetByteTest.passes.Goals as goal
use Rattle.std.proofs.Common.{ap, ◌∙◌}
use Rattle.byte_scan.proofs.{BitLemmas.HasBits_lem, SetLemmas.hit-is_member}
use Rattle.byte_scan.specs.ByteSet.{is_member}

pub returns : goal.returns
returns c =
    hit-is_member c.self.inside.members c.self.inside.rows _ c.args.byte _ _ c.self.invariant HasBits_lem c.ranges.byte.fits c.from.ensures
    c.from-2.ensures
    ∙ ap (λ members. is_member members c.args.byte) c.self.view_is
