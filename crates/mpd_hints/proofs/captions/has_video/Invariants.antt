use Rattle.mpd_hints.proofs.captions.has_video.Given as goal
use Rattle.std.proofs.Common.{◌≡◌, None}
use Rattle.std.specs.{Prelude.option_map, List.list_any}
use Rattle.mpd_tree.specs.Nodes.{element_of}
use Rattle.mpd_profile.specs.LeftOut.{type_of}
use Rattle.mpd_rules.specs.Typed.{kind_in}
use Rattle.mpd_hints.specs.Captions.{has_video, is_video}
use Rattle.mpd_hints.proofs.Left.{representations_left}

abbrev pub invariant-loop-child : goal.invariant-loop-child
invariant-loop-child l = record {
  can_next : (goal.iterator-loop-child).can_next l.child-iterator;
  finite : (goal.iterator-loop-child).is_finite l.child-iterator;
  type : option_map (λ text. text.now) l.media_type ≡ type_of (element_of l.fn.set).head;
  kind : l.kind ≡ kind_in None (element_of l.fn.set);
  left : list_any (is_video l.kind) (representations_left (element_of l.fn.set) l.child-iterator) ≡ has_video (element_of l.fn.set);
}
