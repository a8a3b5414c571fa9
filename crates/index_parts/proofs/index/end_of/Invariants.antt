use Rattle.index_parts.proofs.index.end_of.Given as goal
use Rattle.std.proofs.Common.{◌≡◌, ◌<◌, ◌+◌, ◌*◌, ◌^◌, flat_map, length}
use Rattle.segment_index.specs.Laws.{end_from}
use Rattle.index_parts.specs.{Found.reference_faults, Refusals.unless_any}

abbrev pub invariant-loop-reference : goal.invariant-loop-reference
invariant-loop-reference l = record {
  can_next : (goal.iterator-loop-reference).can_next l.reference-iterator;
  finite : (goal.iterator-loop-reference).is_finite l.reference-iterator;
  told : unless_any (flat_map reference_faults l.reference-iterator) (end_from l.end l.reference-iterator)
      ≡ unless_any (flat_map reference_faults l.fn.references) (end_from l.fn.first l.fn.references);
  room : l.end + 2 ^ 32 * length l.reference-iterator < 2 ^ 66;
}
