-- The names of files in a folder.
use Rattle.std.specs.Prelude.{ℕ, ◌==◌, ◌&&◌, not, Bool, List, ◌++◌, codes, bytes_eq, if◌then◌else◌, Option, Some, None}
use Rattle.std.specs.List.{list_all}
use Rattle.bridge_io.specs.Names.{is_name}

-- the file of a side's master
abbrev pub master_file : List ℕ
master_file = codes "master.m3u8"

-- the file that holds a text until it takes its place
abbrev pub pending_file : List ℕ
pending_file = codes ".new"

-- the name of a file in a folder, if it isn't too long for one
unfoldable pub name_in : (folder file : List ℕ) → Option (List ℕ)
name_in folder file = let name = folder ++ codes "/" ++ file in if is_name name then Some name else None

abbrev pub is_no_slash : ℕ → Bool
is_no_slash b = not (b == 47)

-- a track's file lies in no folder below, and is neither the master nor the pending file
abbrev pub is_track_file : List ℕ → Bool
is_track_file file = not (bytes_eq file master_file) && not (bytes_eq file pending_file) && list_all is_no_slash file
