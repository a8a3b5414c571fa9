-- The bytes of init segments and segments in files, and the times in them.
use Rattle.std.specs.Prelude.{◌≡◌, ℕ, ◌+◌, ◌-◌, ◌^◌, min, List, Option, Some, None, Result, Ok, Err, take, drop}
use Rattle.bridge_io.specs.{Answer.{and_then, told_as}, Outside.Files}
use Rattle.box_reader.specs.{Boxes.{Found, Left}, Parts.part_of, declared.part.PartFault.PartFault}
use Rattle.url_parts.specs.{Addresses.local_name_of, declared.address.Part.Part, declared.range.Range.Range}
use Rattle.layer_faults.specs.declared.times.FileFault.{FileFault}
use Rattle.layer_faults.specs.declared.times.FileFault.TheVariants.{Absent}
use Rattle.fragment_times.specs.{declared.fault.TimesFault.TimesFault, declared.fault.TimesFault.TheVariants.{File, OutsideBase}}
use Rattle.fragment_times.specs.{declared.part.Front.Front, declared.part.Reach.Reach}
use Rattle.fragment_times.specs.Told.{decode_time_of, end_of, first_box, media_scale_of}

-- ---- which bytes

-- the first one: no file has more than 2^63
abbrev pub first_byte : Option Range → ℕ
first_byte None = 0
first_byte (Some range) = min range.first (2 ^ 63)

-- and how many at most
abbrev pub byte_limit : Option Range → ℕ
byte_limit None = 1048576
byte_limit (Some range) = min (min range.count 1048576) (2 ^ 63 - min range.first (2 ^ 63))

-- those of them that a file has
abbrev pub bytes_of : Option Range → (file : List ℕ) → Left
bytes_of range file = record { at = first_byte range; bytes = take (byte_limit range) (drop (first_byte range) file) }

-- ---- the times in them

abbrev pub if_named : Option (List ℕ) → Result (List ℕ) TimesFault
if_named None = Err OutsideBase
if_named (Some file) = Ok file

-- the file of a part, given the URL of the store's folder
abbrev pub file_of : (folder : List ℕ) → Part → Result (List ℕ) TimesFault
file_of folder part = if_named (local_name_of folder part.address)

abbrev pub told_of : (tell : Left → Result ℕ FileFault) → Option Range → (file : Option (List ℕ)) → Result ℕ FileFault
told_of tell range None = Err Absent
told_of tell range (Some file) = tell (bytes_of range file)

abbrev pub told_at : (tell : Left → Result ℕ FileFault) → (folder : List ℕ) → Files → Part → Result ℕ TimesFault
told_at tell folder files part = and_then (file_of folder part) (λ file. told_as (File file) (told_of tell part.range (files file)))

-- the timescale of an init segment
unfoldable pub scale_at : (folder : List ℕ) → Files → Part → Result ℕ TimesFault
scale_at = told_at media_scale_of

-- the decode time of a segment
unfoldable pub start_at : (folder : List ℕ) → Files → Part → Result ℕ TimesFault
start_at = told_at decode_time_of

-- ---- where the box ends that has them

abbrev pub end_in : (kind : List ℕ) → Option Range → (file : Option (List ℕ)) → ℕ
end_in kind range None = 0
end_in kind range (Some file) = end_of (first_byte range) (first_box kind (bytes_of range file))

abbrev pub end_named : (kind : List ℕ) → Files → Option Range → Result (List ℕ) TimesFault → ℕ
end_named kind files range (Ok file) = end_in kind range (files file)
end_named kind files range (Err _) = 0

-- how many bytes of a part there are up to the end of its first box of a type; 0 without one
unfoldable pub end_at : (kind : List ℕ) → (folder : List ℕ) → Files → Part → ℕ
end_at kind folder files part = end_named kind files part.range (file_of folder part)

-- ---- the box that has them

-- the first box of a type, in bytes the first of which is at an offset
abbrev pub box_from : (kind : List ℕ) → (at : ℕ) → List ℕ → Result Found FileFault
box_from kind at bytes = first_box kind (record { at = at; bytes = bytes })

abbrev pub box_by : (kind : List ℕ) → (at : ℕ) → Result (List ℕ) PartFault → Result (Result Found FileFault) PartFault
box_by kind at (Ok bytes) = Ok (box_from kind at bytes)
box_by kind at (Err fault) = Err fault

-- in the reached bytes of a file, where the file exists
abbrev pub box_of : (kind : List ℕ) → Reach → (file : Option (List ℕ)) → Result (Result Found FileFault) PartFault
box_of kind reach file = box_by kind reach.first (part_of reach.first reach.limit file)

-- in the bytes from an index on
abbrev pub box_past : (kind : List ℕ) → (first from : ℕ) → List ℕ → Result Found FileFault
box_past kind first from bytes = box_from kind (first + from) (drop from bytes)

abbrev pub box_in : (kind : List ℕ) → (first : ℕ) → Front → Result Found FileFault
box_in kind first front = box_past kind first front.from front.bytes

-- the boxes before an index make no difference, whatever follows these bytes
abbrev pub IsPassed : (kind : List ℕ) → (first from : ℕ) → (front : List ℕ) → Type 0
IsPassed kind first from front =
    (n : ℕ) (whole : List ℕ) → take n whole ≡ front → box_from kind first whole ≡ box_past kind first from whole

-- and what follows them makes none, since the first box of the type ends within them
abbrev pub IsFound : (kind : List ℕ) → (first from : ℕ) → (front : List ℕ) → Type 0
IsFound kind first from front =
    (n : ℕ) (whole : List ℕ) → take n whole ≡ front → box_past kind first from whole ≡ box_past kind first from front
