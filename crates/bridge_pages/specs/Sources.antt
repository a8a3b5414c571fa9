-- What is read for a manifest: its own bytes, and those of each file that it needs and that is there, up to a limit for all of these.
use Rattle.std.specs.Prelude.{ℕ, ◌-◌, min, nat_lt, List, [], ◌∷◌, ◌++◌, length, if◌then◌else◌, Option, Some, None, Result, Ok, Err}
use Rattle.box_reader.specs.{Parts.part_of, declared.part.PartFault.PartFault}
use Rattle.bridge_io.specs.{Answer.{and_then, told_as}, Outside.Files, Slurped.{Unread, Long, Missing, whole_file}}
use Rattle.bridge_report.specs.Reading.{manifest_limit}
use Rattle.page_server.specs.declared.maker.SourceFile.{SourceFile}
use Rattle.bridge_pages.specs.{declared.needs.Needs.Needs, declared.sources.Reading.Reading, declared.verb.Verb.Verb, Needs.needs_of}

-- how many bytes of other files are read for a manifest at most
abbrev pub total_limit : ℕ
total_limit = 67108864

abbrev pub missing : PartFault → Unread
missing _ = Missing

-- the first bytes of a file, of which no more are read than a manifest may have
abbrev pub front_of : (most : ℕ) → Option (List ℕ) → Result (List ℕ) Unread
front_of most file = told_as missing (part_of 0 (min most manifest_limit) file)

-- The same, or all. A file that doesn't fit in the room that is left is too long.
abbrev pub bytes_of : (most : Option ℕ) → (room : ℕ) → (name : List ℕ) → Files → Result (List ℕ) Unread
bytes_of (Some most) room name files =
    if nat_lt room (min most manifest_limit) then whole_file room name files else front_of most (files name)
bytes_of None room name files = whole_file (min manifest_limit room) name files

abbrev pub with_source : (name bytes : List ℕ) → Reading → Reading
with_source name bytes reading = record {
  sources = reading.sources ++ record { name = name; bytes = bytes } ∷ [];
  room = reading.room - length bytes;
}

-- one more file, where there is one
abbrev pub with_file : (name : List ℕ) → Result (List ℕ) Unread → Reading → Result Reading Unread
with_file name (Ok bytes) reading = Ok (with_source name bytes reading)
with_file name (Err Missing) reading = Ok reading
with_file name (Err (Long place)) reading = Err (Long place)

-- those of some names, one after another
abbrev pub files_behind : (most : Option ℕ) → Reading → Files → (names : List (List ℕ)) → Result Reading Unread
files_behind most reading files [] = Ok reading
files_behind most reading files (name ∷ names) =
    and_then (with_file name (bytes_of most reading.room name files) reading) (λ more. files_behind most more files names)

-- with the manifest itself, which isn't counted
abbrev pub begun : (manifest bytes : List ℕ) → Reading
begun manifest bytes = record { sources = record { name = manifest; bytes = bytes } ∷ []; room = total_limit }

abbrev pub sources_behind : Reading → Files → Needs → Result (List SourceFile) Unread
sources_behind reading files needs = and_then (files_behind needs.most reading files needs.names) (λ all. Ok all.sources)

abbrev pub sources_with : Verb → (base manifest bytes : List ℕ) → Files → Result (List SourceFile) Unread
sources_with verb base manifest bytes files =
    sources_behind (begun manifest bytes) files (needs_of verb base manifest bytes)

unfoldable pub sources_of : Verb → (base manifest : List ℕ) → Files → Result (List SourceFile) Unread
sources_of verb base manifest files =
    and_then (whole_file manifest_limit manifest files) (λ bytes. sources_with verb base manifest bytes files)
