use Rattle.mpd_levels.proofs.tables.read_timeline.Given as goal
use Rattle.std.proofs.Common.{◌≡◌, ◌++◌, All, map, filter}
use Rattle.std.specs.Prelude.{codes}
use Rattle.mpd_tree.specs.Nodes.{element_of, elements_left}
use Rattle.mpd_profile.specs.Heads.{is_named}
use Rattle.mpd_levels.specs.{Fits.FitsRun, Segments.{run_of, runs_of}}

abbrev pub invariant-loop-child : goal.invariant-loop-child
invariant-loop-child l = record {
  can_next : (goal.iterator-loop-child).can_next l.child-iterator;
  finite : (goal.iterator-loop-child).is_finite l.child-iterator;
  so_far : l.entries.items ++ map run_of (filter (is_named (codes "S")) (elements_left l.child-iterator))
      ≡ runs_of (element_of l.fn.timeline);
  fits : All FitsRun (filter (is_named (codes "S")) (elements_left l.child-iterator));
}
