use Rattle.mpd_hints.proofs.captions.has_captions.Given as goal
use Rattle.std.proofs.Common.{◌≡◌}
use Rattle.std.specs.List.{list_any}
use Rattle.mpd_tree.specs.Nodes.{element_of}
use Rattle.mpd_hints.specs.Captions.{has_captions, has_captions_in}
use Rattle.mpd_hints.proofs.Left.{periods_left}

abbrev pub invariant-loop-period : goal.invariant-loop-period
invariant-loop-period l = record {
  can_next : (goal.iterator-loop-period).can_next l.period-iterator;
  finite : (goal.iterator-loop-period).is_finite l.period-iterator;
  left : list_any has_captions_in (periods_left (element_of l.fn.mpd) l.period-iterator) ≡ has_captions (element_of l.fn.mpd);
}
