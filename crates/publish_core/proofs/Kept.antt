-- A track that is seen is the track that is kept.
use Rattle.std.proofs.Common.{◌≡◌, List, [], ◌∷◌, map, refl, sym, ap}
use Rattle.hls_master.specs.{declared.track.MasterTrack.MasterTrack, SeenTags.rate_seen, SeenTracks.track_seen}
use Rattle.presentation.proofs.Kept.{rate_kept}
use Rattle.bridge_playlists.specs.Playlists.{track_kept}

track_again : (track : MasterTrack) → track_kept (track_seen track) ≡ track
track_again track = ap (λ rate. record track { frame_rate = rate }) (sym (rate_kept track.frame_rate (rate_seen track.frame_rate) refl))

pub tracks_again : (tracks : List MasterTrack) → map track_kept (map track_seen tracks) ≡ tracks
tracks_again [] = refl
tracks_again (track ∷ tracks) = rw (track_again track) (ap (λ others. track ∷ others) (tracks_again tracks))
