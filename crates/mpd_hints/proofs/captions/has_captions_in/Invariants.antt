use Rattle.mpd_hints.proofs.captions.has_captions_in.Given as goal
use Rattle.std.proofs.Common.{◌≡◌}
use Rattle.std.specs.List.{list_any}
use Rattle.mpd_tree.specs.Nodes.{element_of}
use Rattle.mpd_hints.specs.Captions.{has_captions_in, is_captioned}
use Rattle.mpd_hints.proofs.Left.{sets_left}

abbrev pub invariant-loop-set : goal.invariant-loop-set
invariant-loop-set l = record {
  can_next : (goal.iterator-loop-set).can_next l.set-iterator;
  finite : (goal.iterator-loop-set).is_finite l.set-iterator;
  left : list_any is_captioned (sets_left (element_of l.fn.period) l.set-iterator) ≡ has_captions_in (element_of l.fn.period);
}
