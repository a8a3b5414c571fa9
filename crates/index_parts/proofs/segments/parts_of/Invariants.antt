use Rattle.std.proofs.Common.{◌≡◌, ◌≤◌, ◌^◌, ◌++◌}
use Rattle.segment_index.specs.Laws.{end_from}
use Rattle.index_parts.specs.Segments.{parts_from, parts_in}
use Rattle.index_parts.proofs.segments.parts_of.Given as goal

abbrev pub invariant-loop-reference : goal.invariant-loop-reference
invariant-loop-reference l = record {
  can_next : (goal.iterator-loop-reference).can_next l.reference-iterator;
  finite : (goal.iterator-loop-reference).is_finite l.reference-iterator;
  told : l.parts.items ++ parts_from l.fn.address l.first l.reference-iterator ≡ parts_in l.fn.address l.fn.index;
  room : end_from l.first l.reference-iterator ≤ 2 ^ 63;
}
