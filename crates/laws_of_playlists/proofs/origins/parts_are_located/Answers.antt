use Rattle.laws_of_playlists.proofs.OriginParts.{initializations_are_located, parts_are_located}
use Rattle.laws_of_playlists.proofs.origins.parts_are_located.Goals as goal

pub returns : goal.returns
returns c = record { initializations = initializations_are_located; segments = parts_are_located }
