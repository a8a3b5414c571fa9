use Rattle.mpd_hints.proofs.tracks.told_in.Given as goal
use Rattle.std.proofs.Common.{◌≡◌, ◌++◌}
use Rattle.std.specs.Prelude.{flat_map}
use Rattle.mpd_tree.specs.Nodes.{element_of}
use Rattle.mpd_hints.specs.Tracks.{told_in, told_in_set}
use Rattle.mpd_hints.proofs.Left.{sets_left}

abbrev pub invariant-loop-set : goal.invariant-loop-set
invariant-loop-set l = record {
  can_next : (goal.iterator-loop-set).can_next l.set-iterator;
  finite : (goal.iterator-loop-set).is_finite l.set-iterator;
  left : l.tolds.items ++ flat_map told_in_set (sets_left (element_of l.fn.period) l.set-iterator) ≡ told_in (element_of l.fn.period);
}
