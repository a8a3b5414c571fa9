use Rattle.std.proofs.Common.{◌≡◌, length}
use Rattle.bridge_io.specs.Firsts.{first_of}
use Rattle.hls_media.specs.Media.{long_faults}
use Rattle.hls_media.proofs.media.first_long_line.Given as goal

abbrev pub invariant-loop-line : goal.invariant-loop-line
invariant-loop-line l = first_of (long_faults l.target l.lines) ≡ first_of (long_faults l.target l.fn.lines)

abbrev pub decreases-loop-line : goal.decreases-loop-line
decreases-loop-line l = length l.lines
