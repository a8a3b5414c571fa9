use Rattle.std.proofs.Common.{take, flat_map, Ok}
use Rattle.bridge_io.specs.Adding.{Adds}
use Rattle.hls_writer.specs.Renditions.{rendition_text}
use Rattle.hls_writer.proofs.master.push_rendition_lines.Given as goal

-- the lines so far are added
abbrev pub invariant-loop-rendition : goal.invariant-loop-rendition
invariant-loop-rendition g l =
    Adds {T = Unit {0}} g.F.Store (flat_map (rendition_text l.tracks l.hints) (take l.rendition-index l.renditions))
    l.initial.sheet l.sheet (Ok tt)
