-- What a presentation of playlists means.
use Rattle.std.specs.Prelude.{◌≡◌, List, map, All, Ok}
use Rattle.hls_master.specs.{declared.track.MasterTrack.MasterTrack, SeenTracks.track_seen}
use Rattle.hls_media.specs.{Laws.IsBounded, declared.media.Media.Media}
use Rattle.hls_meaning.specs.Meanings.{Source as Told, meaning_of_sources}
use Rattle.hls_presentation.specs.{Origins.IsSilentTrack, Presenting.hls_presented_of, Tracks.{Source, sources}}
use Rattle.presentation.specs.{Meanings.meaning_of, Presented.Presented}
use Rattle.meaning.specs.Same.{SameTimed}

-- a track with its playlist, as a meaning has it
abbrev pub told_by : Source → Told
told_by s = record { track = track_seen s.track; media = s.media }

-- the presentation of playlists that were read means what they mean
abbrev pub PresentedMeanWhatIsTold : Type 0
PresentedMeanWhatIsTold = (tracks : List MasterTrack) (medias : List Media) (p : Presented) → All IsBounded medias
    → All IsSilentTrack tracks
    → hls_presented_of tracks medias ≡ Ok p → SameTimed (meaning_of_sources (map told_by (sources tracks medias))) (meaning_of p)
