-- The segments of a `sidx`: each of its references is one (ISO/IEC 14496-12, 8.16.3).
use Rattle.std.specs.{Prelude.{ℕ, ◌+◌, max, not, List, [], ◌∷◌, length, map, Option, Some, None, Result}, List.list_any}
use Rattle.exact_time.specs.Time.{in_units}
use Rattle.url_parts.specs.declared.address.Part.{Part}
use Rattle.timeline.specs.{declared.fault.TimeFault.TimeFault, declared.fault.TimeFault.TheVariants.{ListLength, ZeroDuration}}
use Rattle.timeline.specs.{declared.names.Names.TheVariants.Addresses, Expansions.{Closed, Extent, SegmentTimeline}, Faults.are_paired}
use Rattle.timeline.specs.{Faults.{fault_if, lasts_no_time, or_fault, segment_fault}, Limits.span_breaks_limits}
use Rattle.timeline.specs.SegmentTimelines.{unless_fault}
use Rattle.segment_index.specs.{declared.reference.Reference.Reference, Index.Index}

-- ---- which bytes, and when

-- a segment is a byte range of the file, with the size of its reference
abbrev pub part_of : (address : List ℕ) (first : ℕ) → Reference → Part
part_of address first r = record { address = address; range = Some (record { first = first; count = r.size }) }

-- and begins after the one before it
abbrev pub parts_from : (address : List ℕ) (first : ℕ) → List Reference → List Part
parts_from address first [] = []
parts_from address first (r ∷ rs) = part_of address first r ∷ parts_from address (first + r.size) rs

-- its duration is that of its reference, in ticks
abbrev pub extent_of : (timescale start : ℕ) → Reference → Extent
extent_of timescale start r = record { start = in_units timescale start; end = in_units timescale (start + r.duration) }

-- and begins when the one before it ends
abbrev pub extents_from : (timescale start : ℕ) → List Reference → List Extent
extents_from timescale start [] = []
extents_from timescale start (r ∷ rs) = extent_of timescale start r ∷ extents_from timescale (start + r.duration) rs

-- ---- as a timeline

-- a valid `sidx` doesn't have timescale 0
abbrev pub ticks_of : Index → ℕ
ticks_of index = max 1 index.timescale

abbrev pub parts_in : (address : List ℕ) → Index → List Part
parts_in address index = parts_from address index.first index.references

abbrev pub extents_in : Index → List Extent
extents_in index = extents_from (ticks_of index) 0 index.references

-- segments with these times and files, numbered from 1
abbrev pub timeline_with : (ticks : ℕ) → List Part → List Extent → SegmentTimeline
timeline_with ticks parts xs = record {
  members = map Closed xs;
  ticks = ticks;
  origin = 0;
  offset = 0;
  first_number = 1;
  names = Addresses parts;
}

-- the first fault of given times
abbrev pub fault_of : List Part → List Extent → Option TimeFault
fault_of parts xs = or_fault (fault_if (list_any lasts_no_time xs) ZeroDuration)
    (or_fault (segment_fault span_breaks_limits None (map Closed xs))
    (fault_if (not (are_paired (Some (length parts)) (map Closed xs))) ListLength))

abbrev pub timeline_of : (ticks : ℕ) → List Part → List Extent → Result SegmentTimeline TimeFault
timeline_of ticks parts xs = unless_fault (fault_of parts xs) (timeline_with ticks parts xs)

-- the segments of a file with this URL
unfoldable pub runs_of : (address : List ℕ) → Index → Result SegmentTimeline TimeFault
runs_of address index = timeline_of (ticks_of index) (parts_in address index) (extents_in index)
