use Rattle.mpd_rules.proofs.build.Building.add_tracks.Given as goal
use Rattle.std.proofs.Common.{◌≡◌, ◌++◌, List, map, drop}
use Rattle.std.specs.Prelude.{flat_map}
use Rattle.mpd_tree.specs.{Nodes.element_of, Trees.Element}
use Rattle.mpd_levels.specs.{declared.tables.Tables.Tables, Shown.{Grows, Says}}
use Rattle.mpd_rules.specs.{Built.{refused_in, tracks_shown}, Typed.track_in}

abbrev pub invariant-loop-representation : goal.invariant-loop-representation
invariant-loop-representation g l = record {
  grows : Grows l.initial.self.tables l.self.tables;
  left_out : l.self.left_out ≡ l.initial.self.left_out;
  refused : (levels : List Element) → Says l.initial.self.tables l.above levels
      → flat_map (refused_in g.X.FromLevels.refused g.X.FromLevels.of levels)
      (map element_of (drop l.representation-index l.representations))
      ≡ flat_map (refused_in g.X.FromLevels.refused g.X.FromLevels.of levels) (map element_of l.representations);
  rows : (levels : List Element) (later : Tables) → Says l.initial.self.tables l.above levels → Grows l.self.tables later
      → tracks_shown g.X.FromLevels.shown later l.tracks ++ map (track_in g.X.FromLevels.of l.common levels)
      (map element_of (drop l.representation-index l.representations))
      ≡ tracks_shown g.X.FromLevels.shown later l.initial.tracks ++ map (track_in g.X.FromLevels.of l.common levels)
      (map element_of l.representations);
}
