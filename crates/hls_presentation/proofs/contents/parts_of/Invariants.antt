use Rattle.std.proofs.Common.{◌≡◌, take}
use Rattle.hls_presentation.specs.Presenting.{parts_of}
use Rattle.hls_presentation.proofs.contents.parts_of.Given as goal

abbrev pub invariant-loop-segment : goal.invariant-loop-segment
invariant-loop-segment l = l.parts.items ≡ parts_of (take l.segment-index l.group)
