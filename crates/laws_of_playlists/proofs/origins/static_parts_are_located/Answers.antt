use Rattle.laws_of_playlists.specs.Origins.{of_static}
use Rattle.laws_of_playlists.proofs.origins.static_parts_are_located.Goals as goal

pub returns : goal.returns
returns c = let located = c.parts_are_located.ensures in record {
  initializations = λ p from. located.initializations p (of_static p from);
  segments = λ p from. located.segments p (of_static p from);
}
