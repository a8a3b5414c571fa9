use Rattle.mpd_rules.proofs.periods.read_bounds.Given as goal
use Rattle.std.proofs.Common.{◌≡◌, ◌++◌, map, drop, None}
use Rattle.mpd_tree.specs.Nodes.{element_of}
use Rattle.mpd_rules.specs.Periods.{bounds_from, bounds_of, order_told, period_bounds}

abbrev pub invariant-loop-place : goal.invariant-loop-place
invariant-loop-place l = record {
  refused : order_told l.former (bounds_from l.total l.default (map element_of (drop l.place l.periods)))
      ≡ order_told None (period_bounds (element_of l.fn.mpd));
  bounds : l.bounds ++ map bounds_of (bounds_from l.total l.default (map element_of (drop l.place l.periods)))
      ≡ map bounds_of (period_bounds (element_of l.fn.mpd));
}
