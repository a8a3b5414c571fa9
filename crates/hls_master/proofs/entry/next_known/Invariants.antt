use Rattle.std.proofs.Common.{◌≡◌, length}
use Rattle.hls_master.specs.Entries.{known_lines}
use Rattle.hls_master.proofs.entry.next_known.Given as goal

abbrev pub invariant-loop-line : goal.invariant-loop-line
invariant-loop-line l = known_lines l.lines ≡ known_lines l.initial.lines

abbrev pub decreases-loop-line : goal.decreases-loop-line
decreases-loop-line l = length l.lines
