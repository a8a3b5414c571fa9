use Rattle.laws_of_mpds.proofs.from_playlists.what_is_read_has_addresses.Goals as goal
use Rattle.laws_of_mpds.proofs.{Located.read_have_addresses, TrackAddresses.tracks_are_of_bytes}

pub returns : goal.returns
returns c = record { segments = read_have_addresses; tracks = tracks_are_of_bytes }
