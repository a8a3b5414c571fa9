use Rattle.std.proofs.Common.{take, flat_map, Ok}
use Rattle.bridge_io.specs.Adding.{Adds}
use Rattle.hls_writer.proofs.Present.{there_text}
use Rattle.hls_writer.proofs.line.push_lines.Given as goal

-- the lines so far are added
abbrev pub invariant-loop-line : goal.invariant-loop-line
invariant-loop-line g l =
    Adds {T = Unit {0}} g.F.Store (flat_map there_text (take l.line-index l.lines)) l.initial.sheet l.sheet (Ok tt)
