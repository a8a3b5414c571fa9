use Rattle.mpd_hints.proofs.tracks.add_set.Given as goal
use Rattle.std.proofs.Common.{◌≡◌, ◌++◌, None, map}
use Rattle.std.specs.Prelude.{option_map}
use Rattle.mpd_tree.specs.Nodes.{element_of}
use Rattle.mpd_profile.specs.LeftOut.{type_of}
use Rattle.mpd_rules.specs.Typed.{kind_in}
use Rattle.mpd_hints.specs.Tracks.{said_by, told_at, told_in_set}
use Rattle.mpd_hints.proofs.Left.{representations_left}

abbrev pub invariant-loop-child : goal.invariant-loop-child
invariant-loop-child l = record {
  can_next : (goal.iterator-loop-child).can_next l.child-iterator;
  finite : (goal.iterator-loop-child).is_finite l.child-iterator;
  type : option_map (λ text. text.now) l.media_type ≡ type_of (element_of l.fn.set).head;
  kind : l.kind ≡ kind_in None (element_of l.fn.set);
  said : l.said ≡ said_by (element_of l.fn.set);
  left : l.tolds.items ++ map (told_at (element_of l.fn.set)) (representations_left (element_of l.fn.set) l.child-iterator)
      ≡ l.fn.tolds.items ++ told_in_set (element_of l.fn.set);
}
