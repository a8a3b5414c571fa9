use Rattle.laws_of_playlists.proofs.OriginIndexes.{indexes_are_told}
use Rattle.laws_of_playlists.proofs.origins.indexes_are_told.Goals as goal

pub returns : goal.returns
returns c = indexes_are_told
