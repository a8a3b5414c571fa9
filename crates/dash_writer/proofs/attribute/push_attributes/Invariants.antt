use Rattle.std.proofs.Common.{take, flat_map, Ok}
use Rattle.bridge_io.specs.Adding.{Adds}
use Rattle.dash_writer.specs.Written.{known_text, told}
use Rattle.dash_writer.proofs.attribute.push_attributes.Given as goal

-- the attributes so far are added
abbrev pub invariant-loop-attribute : goal.invariant-loop-attribute
invariant-loop-attribute g l =
    Adds {T = Unit {0}} g.F.Store (flat_map (λ a. known_text (told a)) (take l.attribute-index l.attributes))
    l.initial.sheet l.sheet (Ok tt)
