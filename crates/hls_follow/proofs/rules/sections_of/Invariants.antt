use Rattle.std.proofs.Common.{◌≡◌, ◌++◌, drop}
use Rattle.hls_follow.specs.Rules.{sections_behind, sections_of}
use Rattle.hls_follow.proofs.rules.sections_of.Given as goal

abbrev pub invariant-loop-segment : goal.invariant-loop-segment
invariant-loop-segment l = l.sections ++ sections_behind l.former (drop l.segment-index l.media.segments) ≡ sections_of l.media
