use Rattle.laws_of_playlists.proofs.TrackPlaylists.{tracks_are_read}
use Rattle.laws_of_playlists.proofs.media.track_playlists_are_read_again.Goals as goal

pub returns : goal.returns
returns c = tracks_are_read
