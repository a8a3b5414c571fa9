use Rattle.std.proofs.Common.{arith}
use Rattle.byte_scan.proofs.PlaceLemmas.{IsCut-first_chunks}
use Rattle.byte_scan.proofs.scan.cut.Goals as goal

pub returns : goal.returns
returns c =
    let e = c.as_chunks.ensures in
    IsCut-first_chunks 32 c.args.bytes.now _ _ (omega arith) e.front e.front_len e.back e.back_len
