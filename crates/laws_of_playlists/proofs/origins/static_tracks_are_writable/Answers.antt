use Rattle.laws_of_playlists.specs.Origins.{of_static}
use Rattle.laws_of_playlists.proofs.origins.static_tracks_are_writable.Goals as goal

pub returns : goal.returns
returns c = let are = c.tracks_are_writable.ensures in record {
  writable = λ p from. are.writable p (of_static p from);
  tracks = λ p from. are.tracks p (of_static p from);
  few = λ p from. are.few p (of_static p from);
  sections = λ p from. are.sections p (of_static p from);
}
