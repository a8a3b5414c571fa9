-- What is written for a first MPD, and what it means (ISO/IEC 23009-1, 5.3; RFC 8216, 4.3).
use Rattle.std.specs.Prelude.{◌≡◌, ℕ, ℤ, Option, List, [], ◌∷◌, ◌++◌, length, Some, Ok}
use Rattle.bridge_io.specs.Outside.{Files}
use Rattle.url_parts.specs.{Addresses.folder_of, Spelling.PlaylistPlace}
use Rattle.hls_writer.specs.{Attributes.playlist_name, Master.master_text}
use Rattle.live_meaning.specs.{Updates.{Refresh, Terms, Values}, States.State, Refusals.begun_of, Playlists.{FollowedPlaylist, live_text}}
use Rattle.live_meaning.specs.Playlists.{playlist_of}
use Rattle.laws_of_playlists.specs.{Master.IsFitFor, SameFiles.{AreSpelled, HoldsFiles, MeanTheSame, master_name}}
use Rattle.track_hints.specs.declared.hints.Hints.{Hints}
use Rattle.laws_of_reloads.specs.Laws.{IsFollowed}

-- the master playlist of the first MPD, and beside it the media playlist of each track with its spelling
pub record HoldState (files : Files) (prefix : List ℕ) (place : ℕ → Option PlaylistPlace) (players : Option Hints) (s : State) : Type 0
  where
    pub master : files (prefix ++ master_name) ≡ Some (master_text players s.common.opened)
    pub playlists : (t : ℕ) (playlist : FollowedPlaylist) → playlist_of s t ≡ Some playlist
        → files (prefix ++ playlist_name t) ≡ Some (live_text (place t) playlist)

-- They mean what the MPD means at its time, with each time rounded down.
abbrev pub FirstFilesMeanTheSame : Type 0
FirstFilesMeanTheSame = (terms : Terms) (mpd : Values) (now : ℤ) (s : State) (files : Files) (folder prefix : List ℕ)
    (place : ℕ → Option PlaylistPlace) (players : Option Hints) → IsFitFor players
    → IsFollowed terms (Refresh mpd now ∷ []) → begun_of terms mpd now ≡ Ok s → folder_of folder ≡ folder
    → HoldsFiles prefix (length s.common.opened.tracks) → AreSpelled place folder prefix (length s.common.opened.tracks)
    → HoldState files prefix place players s
    → MeanTheSame files folder (folder ++ (prefix ++ master_name)) s.common.opened terms.digits
