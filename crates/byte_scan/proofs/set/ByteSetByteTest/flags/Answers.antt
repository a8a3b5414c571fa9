use Rattle.byte_scan.proofs.set.ByteSetByteTest.flags.Goals as goal
use Rattle.std.proofs.Common.{◌≡◌, subst}
use Rattle.byte_scan.proofs.{BitLemmas.HasBits_lem, SetLemmas.flags-is_member}
use Rattle.byte_scan.specs.{ByteSet.is_member, Lanes.flags}

pub returns : goal.returns
returns c =
    let lanes = c.args.lanes in
    subst (λ members. c.differs_from.result ≡ flags (is_member members) lanes) c.self.view_is
    (flags-is_member c.self.inside.members c.self.inside.rows _ lanes c.self.invariant HasBits_lem c.fits-lanes.1 c.at_low_bits.ensures
    c.at_high_bits.ensures c.differs_from.ensures)
