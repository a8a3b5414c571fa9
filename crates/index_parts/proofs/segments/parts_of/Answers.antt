use Rattle.std.proofs.Common.{◌^◌, arith}
use Rattle.index_parts.proofs.Ends.{ends_behind, next_within}
use Rattle.index_parts.proofs.segments.parts_of.Goals as goal

pub overflow_cast-first : goal.overflow_cast-first
overflow_cast-first c = (let within = ends_behind c.args.index.now.first c.args.index.now.references in grind (arith, within))

pub overflow_add-first : goal.overflow_add-first
overflow_add-first c =
    let within =
    next_within c.loop-reference.first (2 ^ 63) c.in-Some.reference c.next.new.self c.loop-reference.reference-iterator
    c.in-Some.ensures.steps c.loop-reference.invariant.room in
    grind (arith, within)
