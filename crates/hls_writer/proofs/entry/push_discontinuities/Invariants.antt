use Rattle.std.proofs.Common.{take, replicate, Ok}
use Rattle.bridge_io.specs.Adding.{Adds}
use Rattle.hls_writer.specs.Lines.{lines_text, discontinuity}
use Rattle.hls_writer.proofs.entry.push_discontinuities.Given as goal

-- the lines so far are added
abbrev pub invariant-loop-step : goal.invariant-loop-step
invariant-loop-step g l =
    Adds {T = Unit {0}} g.F.Store (lines_text (take l._step (replicate l.count discontinuity))) l.initial.sheet l.sheet (Ok tt)
