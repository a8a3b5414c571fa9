use Rattle.laws_of_playlists.proofs.players.targets_are_shared.Goals as goal
use Rattle.laws_of_playlists.proofs.PlayerTargets.{targets_are_shared}

pub returns : goal.returns
returns c = targets_are_shared
