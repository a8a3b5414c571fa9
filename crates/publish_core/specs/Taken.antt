-- Whether a master means the same in the served folder.
use Rattle.std.specs.Prelude.{ℕ, ◌&&◌, Bool, true, false, List, [], ◌∷◌, bytes_eq, Option, Some, None, Result, Ok, Err}
use Rattle.std.specs.Option.{option_eq}
use Rattle.meaning.specs.Differences.{is_same_kind}
use Rattle.hls_master.specs.declared.track.MasterTrack.{MasterTrack}
use Rattle.publish_core.specs.{Names.{master_file, name_in}, Refusals.Named, Sides.{FileName, is_named, master_in, names_in}}
use Rattle.publish_core.specs.declared.{job.PublishJob.PublishJob, side.{Side.Side, SideTrack.SideTrack}}

-- a track of the new side is one of a master, of the same file
abbrev pub is_found : SideTrack → MasterTrack → FileName → Bool
is_found track other name =
    is_same_kind track.kind other.kind && option_eq bytes_eq track.language other.language && is_named track.file name

abbrev pub are_found : List SideTrack → List MasterTrack → List FileName → Bool
are_found [] [] names = true
are_found [] (other ∷ found) names = false
are_found (track ∷ tracks) [] names = false
are_found (track ∷ tracks) (other ∷ found) [] = false
are_found (track ∷ tracks) (other ∷ found) (name ∷ names) = is_found track other name && are_found tracks found names

abbrev pub are_found_by : List SideTrack → List MasterTrack → Result (List FileName) Named → Bool
are_found_by tracks found (Err named) = false
are_found_by tracks found (Ok names) = are_found tracks found names

abbrev pub are_named_alike : (folder file : List ℕ) → List SideTrack → List MasterTrack → Bool
are_named_alike folder file tracks found = are_found_by tracks found (names_in folder file found)

abbrev pub is_read_by : (folder file : List ℕ) → List SideTrack → Result (List MasterTrack) Named → Bool
is_read_by folder file tracks (Err named) = false
is_read_by folder file tracks (Ok found) = are_named_alike folder file tracks found

abbrev pub is_read_alike : (folder file : List ℕ) → Side → Bool
is_read_alike folder file new = is_read_by folder file new.tracks (master_in file new.text)

abbrev pub is_taken_as : (folder : List ℕ) → Side → Option (List ℕ) → Bool
is_taken_as folder new None = false
is_taken_as folder new (Some file) = is_read_alike folder file new

-- The new master has the same tracks, of the same files, when it is read as the served one.
abbrev pub is_taken : PublishJob → Side → Bool
is_taken job new = is_taken_as job.served new (name_in job.served master_file)
