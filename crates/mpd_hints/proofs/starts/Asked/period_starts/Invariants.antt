use Rattle.mpd_hints.proofs.starts.Asked.period_starts.Given as goal
use Rattle.std.proofs.Common.{◌≡◌}
use Rattle.std.specs.List.{list_all}
use Rattle.mpd_tree.specs.Nodes.{element_of}
use Rattle.mpd_hints.specs.Starts.{period_starts, set_starts}
use Rattle.mpd_hints.proofs.Left.{sets_left}

abbrev pub invariant-loop-set : goal.invariant-loop-set
invariant-loop-set l = record {
  can_next : (goal.iterator-loop-set).can_next l.set-iterator;
  finite : (goal.iterator-loop-set).is_finite l.set-iterator;
  left : list_all (set_starts l.self) (sets_left (element_of l.fn.period) l.set-iterator) ≡ period_starts l.self (element_of l.fn.period);
}
