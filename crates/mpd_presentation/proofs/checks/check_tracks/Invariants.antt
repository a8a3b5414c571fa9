use Rattle.mpd_presentation.proofs.checks.check_tracks.Given as goal
use Rattle.std.proofs.Common.{◌≡◌, map, flat_map}
use Rattle.mpd_presentation.specs.{Rows.{all_left, row_of}, Told.{differ_told, differs_told}}

abbrev pub invariant-loop-period : goal.invariant-loop-period
invariant-loop-period l = record {
  can_next : (goal.iterator-loop-period).can_next l.period-iterator;
  finite : (goal.iterator-loop-period).is_finite l.period-iterator;
  told : differ_told (all_left l.fn.periods) ≡ flat_map (differs_told (map row_of l.first.items)) (all_left l.period-iterator);
}
