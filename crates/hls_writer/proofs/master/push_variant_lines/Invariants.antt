use Rattle.std.proofs.Common.{take, flat_map, Ok}
use Rattle.bridge_io.specs.Adding.{Adds}
use Rattle.hls_writer.specs.LaidOut.{cast_text}
use Rattle.hls_writer.proofs.master.push_variant_lines.Given as goal

-- the lines so far are added
abbrev pub invariant-loop-variant : goal.invariant-loop-variant
invariant-loop-variant g l =
    Adds {T = Unit {0}} g.F.Store (flat_map (cast_text l.cast) (take l.variant-index l.variants)) l.initial.sheet l.sheet (Ok tt)
