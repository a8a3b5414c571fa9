use Rattle.laws_of_playlists.proofs.PlayerDefaults.{defaults_are_played, defaults_are_single}
use Rattle.laws_of_playlists.proofs.players.defaults_are_single.Goals as goal

pub returns : goal.returns
returns c = record { single = defaults_are_single; played = defaults_are_played }
