use Rattle.byte_scan.proofs.lanes.twice.Goals as goal
use Rattle.std.proofs.{Common.{◌++◌, length-append, arith}, lemmas.Simd.pick_l_whole}

pub returns : goal.returns
returns c = pick_l_whole 0 (c.args.table ++ c.args.table) 32 (omega (arith, length-append c.args.table c.args.table))
