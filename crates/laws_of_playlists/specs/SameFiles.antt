-- The files that are written for a presentation, and what they mean together (RFC 8216, 4.3).
use Rattle.std.specs.Prelude.{◌≡◌, ℕ, ◌^◌, ◌<◌, ◌≤◌, true, List, [], ◌∷◌, ◌++◌, codes, length, Option, Some}
use Rattle.bridge_io.specs.{Names.is_name, Outside.Files}
use Rattle.url_parts.specs.{Addresses.folder_of, Spelling.PlaylistPlace}
use Rattle.hls_media.specs.{declared.media.Media.Media, declared.media.MediaSegment.MediaSegment}
use Rattle.hls_meaning.specs.Meanings.{hls_meaning}
use Rattle.meaning.specs.{Meanings.Meaning, Same.SameFloor}
use Rattle.presentation.specs.{Meanings.meaning_of, Presented.Presented}
use Rattle.track_hints.specs.declared.hints.Hints.{Hints}
use Rattle.hls_writer.specs.{Attributes.playlist_name, Finished.{media_text, targets_of}, Master.master_text, Verified.IsVerified}
use Rattle.laws_of_playlists.specs.{Master.IsFitFor, ReadMedia.{IsReadableTrack, ReadsAs, Spells, track_media}, Same.SegmentsEndInTurn}
use Rattle.laws_of_playlists.specs.{Tracks.AreWritable}

abbrev pub master_name : List ℕ
master_name = codes "master.m3u8"

-- the prefix of the files' names, empty or a folder with its `/`, so that they are names of a store
pub record HoldsFiles (prefix : List ℕ) (tracks : ℕ) : Type 0 where
  pub folder : folder_of prefix ≡ prefix
  pub master : is_name (prefix ++ master_name) ≡ true
  pub playlists : (t : ℕ) → t < tracks → is_name (prefix ++ playlist_name t) ≡ true

-- the URL of a track's playlist under a folder
abbrev pub playlist_under : (folder prefix : List ℕ) → ℕ → List ℕ
playlist_under folder prefix t = folder ++ (prefix ++ playlist_name t)

-- how URLs are spelled in the playlist of each track, where they stand for themselves
abbrev pub AreSpelled : (place : ℕ → Option PlaylistPlace) (folder prefix : List ℕ) (tracks : ℕ) → Type 0
AreSpelled place folder prefix tracks = (t : ℕ) → t < tracks → Spells (place t) (playlist_under folder prefix t)

-- a presentation's master playlist, plain or for players, and beside it the media playlist of each track with its spelling
pub record AreWritten (files : Files) (prefix : List ℕ) (place : ℕ → Option PlaylistPlace) (players : Option Hints) (p : Presented)
    (digits : ℕ) : Type 0 where
  pub master : files (prefix ++ master_name) ≡ Some (master_text players p)
  pub playlists : (t : ℕ) → t < length p.tracks
      → files (prefix ++ playlist_name t) ≡ Some (media_text (place t) (targets_of players) p digits t)

-- a folder of a store with its `/`, in which these are names
abbrev pub FoldersHoldFiles : Type 0
FoldersHoldFiles = (folder : List ℕ) (tracks : ℕ) → is_name folder ≡ true → is_name (folder ++ 47 ∷ master_name) ≡ true
    → ((t : ℕ) → t < tracks → is_name (folder ++ 47 ∷ playlist_name t) ≡ true) → HoldsFiles (folder ++ 47 ∷ []) tracks

-- The files of a master playlist under a folder mean what a presentation means, with each time rounded down.
abbrev pub MeanTheSame : Files → (folder url : List ℕ) → Presented → (digits : ℕ) → Type 0
MeanTheSame files folder url p digits = (m : Meaning) × ((hls_meaning files folder url ≡ Some m) × SameFloor (10 ^ digits) (meaning_of p) m)

-- what has to hold of a presentation
pub record IsWritable (p : Presented) (digits : ℕ) : Type 0 where
  pub verified : IsVerified p digits
  pub few : digits ≤ 9
  pub ordered : SegmentsEndInTurn p
  pub tracks : AreWritable p.tracks

-- for VOD
pub record IsReadable (p : Presented) (digits : ℕ) : Type 0 where
  pub writable : IsWritable p digits
  pub playlists : (t : ℕ) → t < length p.tracks → IsReadableTrack p digits t

-- ---- whatever else the playlists contain

-- a file is a playlist that is read with these segments at a URL
pub record IsPlaylistOf (files : Files) (name url : List ℕ) (segments : List MediaSegment) : Type 0 where
  pub text : List ℕ
  pub there : files name ≡ Some text
  pub reads : (media : Media) × (ReadsAs text url media × (media.segments ≡ segments))

-- a presentation's master playlist, and beside it a media playlist with the segments of each track
pub record HoldTracks (files : Files) (folder prefix : List ℕ) (players : Option Hints) (p : Presented) (digits : ℕ) : Type 0 where
  pub master : files (prefix ++ master_name) ≡ Some (master_text players p)
  pub playlists : (t : ℕ) → t < length p.tracks
      → IsPlaylistOf files (prefix ++ playlist_name t) (playlist_under folder prefix t) (track_media p digits t).segments

-- these files mean what the presentation means
abbrev pub TracksMeanTheSame : Type 0
TracksMeanTheSame = (p : Presented) (digits : ℕ) (files : Files) (folder prefix : List ℕ) (players : Option Hints) → IsFitFor players
    → IsWritable p digits → folder_of folder ≡ folder → HoldsFiles prefix (length p.tracks)
    → HoldTracks files folder prefix players p digits
    → MeanTheSame files folder (folder ++ (prefix ++ master_name)) p digits

-- ---- VOD presentations

-- what is written for a presentation means what it means
abbrev pub WrittenMeanTheSame : Type 0
WrittenMeanTheSame = (p : Presented) (digits : ℕ) (files : Files) (folder prefix : List ℕ) (place : ℕ → Option PlaylistPlace)
    (players : Option Hints) → IsFitFor players → IsReadable p digits → folder_of folder ≡ folder → HoldsFiles prefix (length p.tracks)
    → AreSpelled place folder prefix (length p.tracks) → AreWritten files prefix place players p digits
    → MeanTheSame files folder (folder ++ (prefix ++ master_name)) p digits
