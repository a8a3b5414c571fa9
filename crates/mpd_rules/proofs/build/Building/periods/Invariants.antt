use Rattle.mpd_rules.proofs.build.Building.periods.Given as goal
use Rattle.std.proofs.Common.{◌≡◌, ◌+◌, ◌++◌, map, drop, length}
use Rattle.std.specs.Prelude.{sum_by}
use Rattle.mpd_tree.specs.Nodes.{element_of}
use Rattle.mpd_levels.specs.{declared.tables.Tables.Tables, Shown.Grows}
use Rattle.mpd_rules.specs.{Built.{periods_in, periods_refused, periods_shown}, Kept.left_in_period}

abbrev pub invariant-loop-place : goal.invariant-loop-place
invariant-loop-place g l = record {
  left_out : length l.self.left_out + sum_by left_in_period (map element_of (drop l.place l.periods))
      ≡ length l.initial.self.left_out + sum_by left_in_period (map element_of l.periods);
  refused : periods_refused l.many g.X.FromLevels.refused g.X.FromLevels.of l.place (map element_of (drop l.place l.periods))
      ≡ periods_refused l.many g.X.FromLevels.refused g.X.FromLevels.of 0 (map element_of l.periods);
  rows : (later : Tables) → Grows l.self.tables later
      → periods_shown g.X.FromLevels.shown later l.rows ++ periods_in g.X.FromLevels.of l.bases (map element_of (drop l.place l.periods))
      (drop l.place l.bounds) ≡ periods_in g.X.FromLevels.of l.bases (map element_of l.periods) l.bounds;
}
