use Rattle.mpd_presentation.proofs.described.sections_of.Given as goal
use Rattle.std.proofs.Common.{◌≡◌, ◌++◌, map}
use Rattle.mpd_presentation.specs.Rows.{all_left, section_of}

abbrev pub invariant-loop-period : goal.invariant-loop-period
invariant-loop-period l = record {
  can_next : (goal.iterator-loop-period).can_next l.period-iterator;
  finite : (goal.iterator-loop-period).is_finite l.period-iterator;
  so_far : l.sections ++ map section_of (all_left l.period-iterator) ≡ map section_of (all_left l.fn.periods);
}
