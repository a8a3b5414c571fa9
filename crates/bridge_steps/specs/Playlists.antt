-- The files that `hls` writes for a presentation, plain or for players.
use Rattle.std.specs.Prelude.{ℕ, List, [], ◌∷◌, ◌++◌, map, codes, Option, Some, None, option_and_then}
use Rattle.url_parts.specs.Spelling.{PlaylistPlace, place_of}
use Rattle.presentation.specs.{Presented.Presented, Counting.tracks_of}
use Rattle.hls_writer.specs.{Finished.{media_text, targets_of}, Master.master_text}
use Rattle.track_hints.specs.declared.hints.Hints.{Hints}
use Rattle.bridge_jobs.specs.Laws.{in_folder, playlist_of}
use Rattle.bridge_jobs.specs.declared.jobs.Addresses.{Addresses, TheVariants.{Absolute, Relative}}

-- the folder of playlists, and the base that their URLs are relative to, if they are
pub record OutputPlace : Type 0 where
  pub folder : List ℕ
  pub base : Option (List ℕ)

abbrev pub base_if : Addresses → (base : List ℕ) → Option (List ℕ)
base_if Absolute base = None
base_if Relative base = Some base

abbrev pub output_of : Addresses → (base folder : List ℕ) → OutputPlace
output_of addresses base folder = record { folder = folder; base = base_if addresses base }

-- how URLs are spelled in a track's playlist
abbrev pub spelling_in : OutputPlace → ℕ → Option PlaylistPlace
spelling_in output track = option_and_then (λ base. place_of base output.folder (playlist_of track)) output.base

-- the playlist of a track: its name and its text
abbrev pub track_file : OutputPlace → (players : Option Hints) → (digits : ℕ) → Presented → ℕ → List ℕ × List ℕ
track_file output players digits p track =
    (in_folder output.folder (playlist_of track), media_text (spelling_in output track) (targets_of players) p digits track)

abbrev pub track_files : OutputPlace → (players : Option Hints) → (digits : ℕ) → Presented → List (List ℕ × List ℕ)
track_files output players digits p = map (track_file output players digits p) (tracks_of p)

abbrev pub master_file : (out : List ℕ) → (players : Option Hints) → Presented → List ℕ × List ℕ
master_file out players p = (in_folder out (codes "master.m3u8"), master_text players p)

-- the playlists of the tracks in order, and the master playlist last
abbrev pub playlists : OutputPlace → (players : Option Hints) → (digits : ℕ) → Presented → List (List ℕ × List ℕ)
playlists output players digits p = track_files output players digits p ++ master_file output.folder players p ∷ []
