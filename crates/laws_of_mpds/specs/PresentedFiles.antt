-- What a presentation of the files of a master playlist and its media playlists means.
use Rattle.std.specs.Prelude.{◌≡◌, ℕ, true, List, [], ◌∷◌, map, Some, Ok}
use Rattle.bridge_io.specs.Outside.{Files}
use Rattle.hls_master.specs.{declared.track.MasterTrack.MasterTrack, Masters.master_of, SeenTracks.track_seen}
use Rattle.hls_media.specs.{Media.media_of, declared.media.Media.Media}
use Rattle.hls_meaning.specs.Meanings.{file_at, hls_meaning}
use Rattle.hls_presentation.specs.Presenting.{hls_presented_of}
use Rattle.meaning.specs.{Meanings.Meaning, Same.SameTimed}
use Rattle.presentation.specs.{Meanings.meaning_of, Presented.Presented}

-- the file at a URL under a folder is a master playlist with these tracks
pub record IsMaster (files : Files) (folder url : List ℕ) (tracks : List MasterTrack) : Type 0 where
  pub bytes : List ℕ
  pub found : file_at files folder url ≡ Some bytes
  pub read : master_of bytes url ≡ Ok (map track_seen tracks)

-- the file at a URL under a folder is this media playlist
pub record IsPlaylist (files : Files) (folder address : List ℕ) (media : Media) : Type 0 where
  pub bytes : List ℕ
  pub found : file_at files folder address ≡ Some bytes
  pub read : media_of bytes address ≡ Ok media

-- so are those at the URLs of tracks, one for each
abbrev pub ArePlaylists : Files → (folder : List ℕ) → List MasterTrack → List Media → Type 0
ArePlaylists files folder [] [] = Unit {0}
ArePlaylists files folder [] (media ∷ medias) = ⊥
ArePlaylists files folder (track ∷ tracks) [] = ⊥
ArePlaylists files folder (track ∷ tracks) (media ∷ medias) = IsPlaylist files folder track.address media
    × ArePlaylists files folder tracks medias

-- the files mean what the presentation means, with equal and valid times
abbrev pub MeanTheSame : Files → (folder url : List ℕ) → Presented → Type 0
MeanTheSame files folder url p = (m : Meaning) × ((hls_meaning files folder url ≡ Some m) × SameTimed m (meaning_of p))

-- the presentation of a master playlist and its media playlists means what these files mean
abbrev pub PresentedMeanTheirFiles : Type 0
PresentedMeanTheirFiles = (files : Files) (folder url : List ℕ) (tracks : List MasterTrack) (medias : List Media) (p : Presented)
    → IsMaster files folder url tracks
    → ArePlaylists files folder tracks medias → hls_presented_of tracks medias ≡ Ok p → MeanTheSame files folder url p

-- ---- playlists that may be live

-- a playlist as if it were ended
abbrev pub ended : Media → Media
ended media = record media { ended = true }

-- the same of media playlists each of which is taken as if it were ended
abbrev pub ListedMeanTheirFiles : Type 0
ListedMeanTheirFiles = (files : Files) (folder url : List ℕ) (tracks : List MasterTrack) (medias : List Media) (p : Presented)
    → IsMaster files folder url tracks
    → ArePlaylists files folder tracks medias → hls_presented_of tracks (map ended medias) ≡ Ok p → MeanTheSame files folder url p
