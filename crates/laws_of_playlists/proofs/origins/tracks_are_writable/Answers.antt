use Rattle.laws_of_playlists.proofs.OriginTracks.{have_few_tracks, have_sections, have_tracks, tracks_are_writable}
use Rattle.laws_of_playlists.proofs.origins.tracks_are_writable.Goals as goal

pub returns : goal.returns
returns c = record { writable = tracks_are_writable; tracks = have_tracks; few = have_few_tracks; sections = have_sections }
