use Rattle.mpd_rules.proofs.children.kept_children.Given as goal
use Rattle.std.proofs.Common.{◌≡◌, ◌+◌, ◌++◌, length, map, filter}
use Rattle.std.specs.Prelude.{count_by, option_map}
use Rattle.mpd_tree.specs.Nodes.{element_of, elements_left}
use Rattle.mpd_profile.specs.LeftOut.{type_of}
use Rattle.mpd_rules.specs.Kept.{is_kept, is_left, kept_children, left_children}

abbrev pub invariant-loop-child : goal.invariant-loop-child
invariant-loop-child l = record {
  can_next : (goal.iterator-loop-child).can_next l.child-iterator;
  finite : (goal.iterator-loop-child).is_finite l.child-iterator;
  type : option_map (λ text. text.now) l.media_type ≡ type_of (element_of l.fn.parent).head;
  kept : map element_of l.kept.items ++ filter (is_kept l.listed l.name (element_of l.fn.parent).head) (elements_left l.child-iterator)
      ≡ kept_children l.listed l.name (element_of l.fn.parent);
  left_out : length l.left_out + count_by (is_left l.listed l.name (element_of l.fn.parent).head) (elements_left l.child-iterator)
      ≡ length l.fn.left_out + left_children l.listed l.name (element_of l.fn.parent);
}
