-- What is written for an MPD whose media files have a `sidx` (ISO/IEC 23009-1, 5.3.9.2; RFC 8216, 4.3).
use Rattle.std.specs.Prelude.{◌≡◌, ℕ, ◌≤◌, List, ◌++◌, length, Option}
use Rattle.bridge_io.specs.Outside.{Files}
use Rattle.url_parts.specs.{Addresses.folder_of, Spelling.PlaylistPlace}
use Rattle.presentation.specs.Presented.{Presented}
use Rattle.track_hints.specs.declared.hints.Hints.{Hints}
use Rattle.hls_writer.specs.Verified.{IsVerified}
use Rattle.laws_of_playlists.specs.{Master.IsFitFor, Origins.IsFound}
use Rattle.laws_of_playlists.specs.SameFiles.{AreSpelled, AreWritten, HoldsFiles, MeanTheSame, master_name}
use Rattle.laws_of_playlists.specs.IndexOrigins.{CameFromIndexes}

-- The playlists that are written for it mean what its presentation means, with each time rounded down to the unit that
-- durations are written in.
abbrev pub WrittenMeansTheIndex : Type 0
WrittenMeansTheIndex = (p : Presented) (digits : ℕ) (files : Files) (folder prefix : List ℕ) (place : ℕ → Option PlaylistPlace)
    (players : Option Hints) (from : CameFromIndexes p) → IsFitFor players → IsFound from.tree from.url → IsVerified p digits → digits ≤ 9
    → folder_of folder ≡ folder → HoldsFiles prefix (length p.tracks) → AreSpelled place folder prefix (length p.tracks)
    → AreWritten files prefix place players p digits → MeanTheSame files folder (folder ++ (prefix ++ master_name)) p digits
