use Rattle.mpd_levels.proofs.tables.read_all_urls.Given as goal
use Rattle.std.proofs.Common.{◌≡◌, ◌++◌, map, filter}
use Rattle.std.specs.Prelude.{codes}
use Rattle.mpd_tree.specs.Nodes.{element_of, elements_left}
use Rattle.mpd_profile.specs.Heads.{is_named}
use Rattle.mpd_levels.specs.{Readings.children_named, Segments.url_of}

abbrev pub invariant-loop-child : goal.invariant-loop-child
invariant-loop-child l = record {
  can_next : (goal.iterator-loop-child).can_next l.child-iterator;
  finite : (goal.iterator-loop-child).is_finite l.child-iterator;
  so_far : l.urls.items ++ map url_of (filter (is_named (codes "SegmentURL")) (elements_left l.child-iterator))
      ≡ map url_of (children_named (codes "SegmentURL") (element_of l.fn.list));
}
