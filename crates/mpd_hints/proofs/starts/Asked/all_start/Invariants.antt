use Rattle.mpd_hints.proofs.starts.Asked.all_start.Given as goal
use Rattle.std.proofs.Common.{◌≡◌}
use Rattle.std.specs.List.{list_all}
use Rattle.mpd_tree.specs.Nodes.{element_of}
use Rattle.mpd_rules.specs.Kept.{periods_of}
use Rattle.mpd_hints.specs.Starts.{period_starts}
use Rattle.mpd_hints.proofs.Left.{periods_left}

abbrev pub invariant-loop-period : goal.invariant-loop-period
invariant-loop-period l = record {
  can_next : (goal.iterator-loop-period).can_next l.period-iterator;
  finite : (goal.iterator-loop-period).is_finite l.period-iterator;
  left : list_all (period_starts l.self) (periods_left (element_of l.fn.mpd) l.period-iterator)
      ≡ list_all (period_starts l.self) (periods_of (element_of l.fn.mpd));
}
