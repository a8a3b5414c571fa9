use Rattle.laws_of_playlists.proofs.OriginTracks.{indexed_tracks_are_writable}
use Rattle.laws_of_playlists.proofs.origins.indexed_tracks_are_writable.Goals as goal

pub returns : goal.returns
returns c = indexed_tracks_are_writable
