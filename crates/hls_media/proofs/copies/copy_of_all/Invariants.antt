use Rattle.std.proofs.Common.{◌≡◌, take}
use Rattle.hls_media.proofs.copies.copy_of_all.Given as goal

abbrev pub invariant-loop-segment : goal.invariant-loop-segment
invariant-loop-segment l = l.copies.items ≡ take l.segment-index l.segments
