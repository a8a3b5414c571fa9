use Rattle.laws_of_playlists.proofs.PlayerTracks.{no_track_is_missing}
use Rattle.laws_of_playlists.proofs.players.no_track_is_missing.Goals as goal

pub returns : goal.returns
returns c = no_track_is_missing
