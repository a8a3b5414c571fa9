-- The `sidx` of a file, or why it gives no segments: ISO/IEC 14496-12, 8.16.3.
use Rattle.std.specs.Prelude.{◌^◌, ◌==◌, nat_lt, List, [], ◌∷◌, ◌++◌, length, flat_map, if◌then◌else◌, Option, Some, None, Result, Ok}
use Rattle.std.specs.Prelude.{Err}
use Rattle.bridge_io.specs.Answer.{and_then, told_as}
use Rattle.box_reader.specs.Boxes.{Left}
use Rattle.segment_index.specs.{declared.reference.Reference.Reference, Index.{Index, index_of}, Laws.end_from}
use Rattle.layer_faults.specs.declared.index.FileFault.{FileFault}
use Rattle.layer_faults.specs.declared.index.FileFault.TheVariants.{Boxes, NoIndex, Scale, Empty, Nested, ZeroSize, Range}
use Rattle.index_parts.specs.Refusals.{unless_any}

abbrev pub scale_faults : Index → List FileFault
scale_faults index = if index.timescale == 0 then Scale index.at ∷ [] else []

abbrev pub empty_faults : Index → List FileFault
empty_faults index = if length index.references == 0 then Empty index.at ∷ [] else []

-- a reference is to another `sidx`, or covers no bytes
abbrev pub reference_faults : Reference → List FileFault
reference_faults r = if r.is_index then Nested r.at ∷ [] else (if r.size == 0 then ZeroSize r.at ∷ [] else [])

-- the last covered byte is at 2^63 or later
abbrev pub range_faults : Index → List FileFault
range_faults index = if nat_lt (2 ^ 63) (end_from index.first index.references) then Range index.at ∷ [] else []

-- in the order in which they are reported
abbrev pub index_faults : Index → List FileFault
index_faults index = scale_faults index ++ (empty_faults index ++ (flat_map reference_faults index.references ++ range_faults index))

abbrev pub if_there : Option Index → Result Index FileFault
if_there None = Err NoIndex
if_there (Some index) = Ok index

-- the first `sidx` among the boxes of some bytes
abbrev pub found_in : Left → Result Index FileFault
found_in left = and_then (told_as Boxes (index_of left)) if_there

-- the same, unless it gives no segments
unfoldable pub index_in : Left → Result Index FileFault
index_in left = and_then (found_in left) (λ index. unless_any (index_faults index) index)
