-- What an MPD says about a media file with a `sidx`, and the content of its Representation: ISO/IEC 23009-1, 5.3.9.2.
use Rattle.std.specs.Prelude.{ℕ, nat_lt, List, length, if◌then◌else◌, Option, Some, None, Result, Ok, Err}
use Rattle.bridge_io.specs.{Answer.{and_then, told_as}, Outside.Files}
use Rattle.box_reader.specs.Parts.{part_of}
use Rattle.segment_index.specs.Index.{Index}
use Rattle.url_parts.specs.{Addresses.{chain, local_name_of}, declared.address.Part.Part, declared.fault.UrlFault.UrlFault}
use Rattle.url_parts.specs.declared.range.Range.{Range}
use Rattle.timeline.specs.Names.{referred}
use Rattle.mpd_levels.specs.declared.initialization.Initialization.{Initialization}
use Rattle.mpd_rules.specs.{declared.rows.Description.Description, Indexes.Index as IndexTold}
use Rattle.presentation.specs.Meanings.{part_with}
use Rattle.index_parts.specs.declared.fault.IndexFault.{IndexFault}
use Rattle.layer_faults.specs.declared.index.FileFault.TheVariants.{Absent}
use Rattle.index_parts.specs.{declared.fault.IndexFault.TheVariants.{OutsideBase, TooLong, File}, declared.located.Listed.Listed}
use Rattle.index_parts.specs.{declared.located.Located.Located, Found.index_in, Refusals.{times_fault, url_fault}, Rows.{Row, told_in}}
use Rattle.index_parts.specs.Segments.{runs_of}

-- ---- by the MPD; the faults are Url of the BaseURLs, then of the init segment, OutsideBase, TooLong

-- the BaseURLs, resolved one after another from the MPD's URL on, give the URL of the file
abbrev pub address_of : (url : List ℕ) → Description → Result (List ℕ) IndexFault
address_of url d = told_as (url_fault d.place) (chain url d.bases)

-- without an Initialization the init segment is the bytes before the `sidx`
abbrev pub part_before : (address : List ℕ) → Range → Part
part_before address index = part_with (Some (record { first = 0; count = index.first })) address

abbrev pub initialization_by : (address : List ℕ) → Range → Option Initialization → Result Part UrlFault
initialization_by address index None = Ok (part_before address index)
initialization_by address index (Some initialization) =
    and_then (referred address initialization.reference) (λ own. Ok (part_with initialization.range own))

abbrev pub initialization_of : Description → (address : List ℕ) → IndexTold → Result Part IndexFault
initialization_of d address told = told_as (url_fault d.place) (initialization_by address told.range told.initialization)

abbrev pub if_named : Option (List ℕ) → Result (List ℕ) IndexFault
if_named None = Err OutsideBase
if_named (Some file) = Ok file

-- an index range has at most 8,388,608 bytes
abbrev pub unless_long : Range → Result Range IndexFault
unless_long index = if nat_lt 8388608 index.count then Err TooLong else Ok index

abbrev pub located_with : Description → IndexTold → (address : List ℕ) → Part → (file : List ℕ) → Located
located_with d told address initialization file =
    record { address = address; initialization = initialization; file = file; index = told.range; place = d.place }

abbrev pub located_by : (folder : List ℕ) → Description → IndexTold → (address : List ℕ) → Part → Result Located IndexFault
located_by folder d told address initialization =
    and_then (if_named (local_name_of folder address)) (λ file.
    and_then (unless_long told.range) (λ index. Ok (located_with d told address initialization file)))

-- the file of a Representation, given the URL of the store's folder
unfoldable pub located_of : (url folder : List ℕ) → Row → Result Located IndexFault
located_of url folder row =
    and_then (address_of url row.description) (λ address.
    and_then (initialization_of row.description address (told_in row)) (λ initialization.
    located_by folder row.description (told_in row) address initialization))

-- ---- by the file; its own faults, then Timeline

-- the bytes of the index range, as far as the file has them
unfoldable pub read_of : Located → Files → Result (List ℕ) IndexFault
read_of l files = told_as (λ fault. File l.file Absent) (part_of l.index.first l.index.count (files l.file))

-- the content of a Representation by a `sidx`, and how many segments
unfoldable pub listed_by : Located → Index → Result Listed IndexFault
listed_by l index = and_then (told_as (times_fault l.place) (runs_of l.address index))
    (λ runs. Ok (record { content = record { initialization = l.initialization; runs = runs }; segments = length index.references }))

-- the same by the bytes of the index range
unfoldable pub listed_in : Located → (bytes : List ℕ) → Result Listed IndexFault
listed_in l bytes = and_then (told_as (File l.file) (index_in (record { at = l.index.first; bytes = bytes }))) (listed_by l)

-- and by the files of the store
unfoldable pub listed_at : Located → Files → Result Listed IndexFault
listed_at l files = and_then (read_of l files) (listed_in l)

-- the content of a Representation, or its first error
unfoldable pub track_parts : (url folder : List ℕ) → Files → Row → Result Listed IndexFault
track_parts url folder files row = and_then (located_of url folder row) (λ l. listed_at l files)
