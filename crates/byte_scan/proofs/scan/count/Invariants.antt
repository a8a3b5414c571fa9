use Rattle.std.proofs.Common.{◌≡◌, ◌+◌, ◌*◌, count_by, drop}
use Rattle.byte_scan.proofs.scan.count.Given as goal

abbrev pub invariant-loop-block : goal.invariant-loop-block
invariant-loop-block g l =
    let passes = g.T.ByteTest.passes l.test in l.count + count_by passes (drop (32 * l.block-index) l.bytes) ≡ count_by passes l.bytes
