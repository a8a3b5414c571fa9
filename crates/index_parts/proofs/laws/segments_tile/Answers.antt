use Rattle.index_parts.proofs.Tiles.{tiled}
use Rattle.index_parts.proofs.laws.segments_tile.Goals as goal

pub returns : goal.returns
returns c = tiled
