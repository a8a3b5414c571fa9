-- The times in media files: ISO/IEC 14496-12, 8.4.2 (`mdhd`) and 8.8.12 (`tfdt`).
use Rattle.box_reader.specs.declared.head.BoxFault.TheVariants as box
use Rattle.std.specs.Prelude.{ℕ, ◌+◌, ◌-◌, ◌%◌, ◌^◌, ◌==◌, nat_lt, List, codes, length, get_or, count_by, if◌then◌else◌, Option, Some, None}
use Rattle.std.specs.Prelude.{Result, Ok, Err}
use Rattle.bridge_io.specs.Answer.{and_then}
use Rattle.box_reader.specs.{Boxes.{Found, Left, Walk, boxes_of, first_in, is_of}, Numbers.{u32_at, u64_at}}
use Rattle.box_reader.specs.declared.head.BoxFault.{BoxFault}
use Rattle.layer_faults.specs.declared.times.FileFault.{FileFault}
use Rattle.layer_faults.specs.declared.times.FileFault.TheVariants.{Boxes, Missing, Tracks, Scale}
use Rattle.fragment_times.specs.{Refusals.sooner, declared.told.Stated.Stated}
use Rattle.layer_faults.specs.declared.times.FileFault.TheVariants.{Range}

-- ---- boxes inside boxes

abbrev pub needed : Result (Option Found) BoxFault → Result Found FileFault
needed (Ok (Some found)) = Ok found
needed (Ok None) = Err Missing
needed (Err fault) = Err (Boxes fault)

-- the first box of a type
abbrev pub first_box : (kind : List ℕ) → Left → Result Found FileFault
first_box kind left = needed (first_in (is_of kind) (boxes_of left))

-- the bytes after a box's header
abbrev pub inside : Found → Left
inside found = record { at = found.head.at + found.head.header; bytes = found.body }

abbrev pub child_of : (kind : List ℕ) → Found → Result Found FileFault
child_of kind found = first_box kind (inside found)

-- how many bytes there are from an offset up to the end of a box
abbrev pub end_of : (first : ℕ) → Result Found FileFault → ℕ
end_of first (Ok found) = found.head.at + found.head.size - first
end_of first (Err fault) = 0

-- what is stated, without the end of its box
abbrev pub value_of : Result (Stated ℕ) FileFault → Result ℕ FileFault
value_of (Ok told) = Ok told.value
value_of (Err fault) = Err fault

-- ---- a number after version and flags

-- a box is shorter than its fields
abbrev pub short : Found → FileFault
short found = Boxes (box.Size found.head.at)

-- 0 or 1
abbrev pub version_of : Found → Result ℕ FileFault
version_of found = if nat_lt (length found.body) 4 then Err (short found)
    else (if nat_lt 1 (get_or found.body 0 0) then Err Missing else Ok (get_or found.body 0 0))

-- a number of 32 bits
abbrev pub u32_in : (place : ℕ) → Found → Result ℕ FileFault
u32_in place found = if nat_lt (length found.body) (place + 4) then Err (short found) else Ok (u32_at place found.body % 2 ^ 32)

abbrev pub u64_in : (place : ℕ) → Found → Result ℕ FileFault
u64_in place found = if nat_lt (length found.body) (place + 8) then Err (short found) else Ok (u64_at place found.body)

-- the timescale of a `mdhd` follows two times, which have 64 bits each in version 1
abbrev pub scale_in : Found → Result ℕ FileFault
scale_in mdhd = and_then (version_of mdhd) (λ version. u32_in (if version == 1 then 20 else 12) mdhd)

-- the time of a `tfdt` has 64 bits in version 1
abbrev pub start_in : Found → Result ℕ FileFault
start_in tfdt = and_then (version_of tfdt) (λ version. if version == 1 then u64_in 4 tfdt else u32_in 4 tfdt)

abbrev pub track_scale : (moov : Found) → Result ℕ FileFault
track_scale moov =
    and_then (child_of (codes "trak") moov) (λ trak.
    and_then (child_of (codes "mdia") trak) (λ mdia.
    and_then (child_of (codes "mdhd") mdia) scale_in))

abbrev pub track_start : (moof : Found) → Result ℕ FileFault
track_start moof = and_then (child_of (codes "traf") moof) (λ traf. and_then (child_of (codes "tfdt") traf) start_in)

-- ---- of the one track

-- all children are visited: a fault among them, also after the first one of a type, or not exactly one of that type
abbrev pub fault_by : Option BoxFault → (count : ℕ) → Option FileFault
fault_by (Some fault) count = Some (Boxes fault)
fault_by None count = if count == 1 then None else Some Tracks

abbrev pub fault_among : (kind : List ℕ) → Walk → Option FileFault
fault_among kind walk = fault_by walk.fault (count_by (is_of kind) walk.boxes)

-- of a fault among the children, and one of the first child itself, the one that is tried first is reported
abbrev pub unless_among : {X : Type 0} → Option FileFault → Result X FileFault → Result X FileFault
unless_among None told = told
unless_among (Some fault) (Ok x) = Err fault
unless_among (Some fault) (Err other) = Err (sooner fault other)

abbrev pub alone : {X : Type 0} → (kind : List ℕ) → Found → Result X FileFault → Result X FileFault
alone kind found told = unless_among (fault_among kind (boxes_of (inside found))) told

abbrev pub unless_none : ℕ → Result ℕ FileFault
unless_none scale = if scale == 0 then Err Scale else Ok scale

abbrev pub unless_late : ℕ → Result ℕ FileFault
unless_late start = if nat_lt start (2 ^ 63) then Ok start else Err Range

-- ---- the times of a part, by its first `moov` or `moof`

abbrev pub scale_by : (moov : Found) → Result ℕ FileFault
scale_by moov = and_then (alone (codes "trak") moov (track_scale moov)) unless_none

abbrev pub start_by : (moof : Found) → Result ℕ FileFault
start_by moof = and_then (alone (codes "traf") moof (track_start moof)) unless_late

-- the timescale of an init segment's media
unfoldable pub media_scale_of : Left → Result ℕ FileFault
media_scale_of left = and_then (first_box (codes "moov") left) scale_by

-- the decode time of a segment's first sample
unfoldable pub decode_time_of : Left → Result ℕ FileFault
decode_time_of left = and_then (first_box (codes "moof") left) start_by
