use Rattle.std.proofs.Common.{◌≡◌, length, take}
use Rattle.byte_scan.specs.ByteSet.{HasRows}
use Rattle.byte_scan.proofs.set.rows_of.Given as goal

abbrev pub invariant-loop-member : goal.invariant-loop-member
invariant-loop-member l = (length l.rows ≡ 16) × HasRows (take l.member-index l.members) l.rows
