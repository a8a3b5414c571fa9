use Rattle.std.proofs.Common.{◌*◌}
use Rattle.byte_scan.proofs.PlaceLemmas.{NoneBelow}
use Rattle.byte_scan.proofs.scan.first.Given as goal

abbrev pub invariant-loop-index : goal.invariant-loop-index
invariant-loop-index g l = NoneBelow (g.T.ByteTest.passes l.test) l.bytes (32 * l.index)
