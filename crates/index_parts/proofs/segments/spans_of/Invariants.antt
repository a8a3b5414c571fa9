use Rattle.std.proofs.Common.{◌≡◌, ◌<◌, ◌+◌, ◌*◌, ◌^◌, ◌++◌, length, map}
use Rattle.timeline.specs.Durations.{extent_of}
use Rattle.index_parts.specs.Segments.{extents_from, extents_in}
use Rattle.index_parts.proofs.segments.spans_of.Given as goal

abbrev pub invariant-loop-reference : goal.invariant-loop-reference
invariant-loop-reference l = record {
  can_next : (goal.iterator-loop-reference).can_next l.reference-iterator;
  finite : (goal.iterator-loop-reference).is_finite l.reference-iterator;
  told : map extent_of l.spans.items ++ extents_from l.scale l.time l.reference-iterator ≡ extents_in l.fn.index;
  room : l.time + 2 ^ 32 * length l.reference-iterator < 2 ^ 48;
}
