use Rattle.mpd_hints.proofs.starts.Asked.set_starts.Given as goal
use Rattle.std.proofs.Common.{◌≡◌, None}
use Rattle.std.specs.{Prelude.option_map, List.list_all}
use Rattle.mpd_tree.specs.Nodes.{element_of}
use Rattle.mpd_profile.specs.{Heads.value_named, LeftOut.type_of}
use Rattle.mpd_rules.specs.Typed.{kind_in}
use Rattle.mpd_hints.specs.Starts.{attribute_of, set_starts, starts_at}
use Rattle.mpd_hints.proofs.Left.{representations_left}

abbrev pub invariant-loop-child : goal.invariant-loop-child
invariant-loop-child l = record {
  can_next : (goal.iterator-loop-child).can_next l.child-iterator;
  finite : (goal.iterator-loop-child).is_finite l.child-iterator;
  type : option_map (λ text. text.now) l.media_type ≡ type_of (element_of l.fn.set).head;
  kind : l.kind ≡ kind_in None (element_of l.fn.set);
  start : option_map (λ text. text.now) l.start ≡ value_named (attribute_of l.self.sap) (element_of l.fn.set).head;
  left : list_all (starts_at l.self (element_of l.fn.set)) (representations_left (element_of l.fn.set) l.child-iterator)
      ≡ set_starts l.self (element_of l.fn.set);
}
