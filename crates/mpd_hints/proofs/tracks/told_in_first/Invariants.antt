use Rattle.mpd_hints.proofs.tracks.told_in_first.Given as goal
use Rattle.std.proofs.Common.{◌≡◌}
use Rattle.mpd_tree.specs.Nodes.{element_of}
use Rattle.mpd_rules.specs.Kept.{periods_of}
use Rattle.mpd_hints.specs.Tracks.{told_in_first}
use Rattle.mpd_hints.proofs.Left.{periods_left}

abbrev pub invariant-loop-period : goal.invariant-loop-period
invariant-loop-period l = record {
  can_next : (goal.iterator-loop-period).can_next l.period-iterator;
  finite : (goal.iterator-loop-period).is_finite l.period-iterator;
  left : told_in_first (periods_left (element_of l.fn.mpd) l.period-iterator) ≡ told_in_first (periods_of (element_of l.fn.mpd));
}
