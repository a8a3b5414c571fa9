use Rattle.mpd_rules.proofs.build.Building.tracks.Given as goal
use Rattle.std.proofs.Common.{◌≡◌, ◌+◌, ◌++◌, List, map, drop, length}
use Rattle.std.specs.Prelude.{flat_map, sum_by}
use Rattle.mpd_tree.specs.{Nodes.element_of, Trees.Element}
use Rattle.mpd_levels.specs.{declared.tables.Tables.Tables, Shown.{Grows, Says}}
use Rattle.mpd_rules.specs.{Built.{set_refused, sets_tracks, tracks_shown}, Kept.left_in_set}

abbrev pub invariant-loop-place : goal.invariant-loop-place
invariant-loop-place g l = record {
  grows : Grows l.initial.self.tables l.self.tables;
  left_out : length l.self.left_out + sum_by left_in_set (map element_of (drop l.place l.sets))
      ≡ length l.initial.self.left_out + sum_by left_in_set (map element_of l.sets);
  refused : (levels : List Element) → Says l.initial.self.tables l.above.level levels
      → flat_map (set_refused g.X.FromLevels.refused g.X.FromLevels.of levels) (map element_of (drop l.place l.sets))
      ≡ flat_map (set_refused g.X.FromLevels.refused g.X.FromLevels.of levels) (map element_of l.sets);
  rows : (levels : List Element) (later : Tables) → Says l.initial.self.tables l.above.level levels → Grows l.self.tables later
      → tracks_shown g.X.FromLevels.shown later l.tracks ++ sets_tracks g.X.FromLevels.of l.place l.above.bases levels
      (map element_of (drop l.place l.sets))
      ≡ sets_tracks g.X.FromLevels.of 0 l.above.bases levels (map element_of l.sets);
}
