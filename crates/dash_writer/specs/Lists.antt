-- SegmentLists with a first time of their own (ISO/IEC 23009-1, 5.3.9.3).
use Rattle.std.specs.Prelude.{ℕ, Bool, List, [], ◌∷◌, map, codes, decimal, Option, Some, option_map}
use Rattle.url_parts.specs.declared.address.Part.{Part}
use Rattle.timeline.specs.{Expansions.{SegmentTimeline, Timing}, Listed.part_of_timing}
use Rattle.dash_writer.specs.{Elements.{Attribute, Element, node}, Runs.longest_runs, Segments.{initialization, part_or_none, s_elements}}
use Rattle.dash_writer.specs.Segments.{joins, segment_url}

abbrev pub head_attributes : (ticks : ℕ) (offset : Option ℕ) → List Attribute
head_attributes ticks offset = (codes "timescale", Some (decimal ticks)) ∷ (codes "presentationTimeOffset", option_map decimal offset) ∷ []

-- SegmentTimeline (5.3.9.6): where segments are joined, an S for each longest run of equal durations, otherwise for each segment
abbrev pub timeline_with : (joined : Bool) (first : ℕ) (durations : List ℕ) → Element
timeline_with joined first durations = node (codes "SegmentTimeline") [] (s_elements (Some first) (longest_runs (joins joined) durations))

abbrev pub contents_with : (joined : Bool) (first : ℕ) → Part → (durations : List ℕ) → List Part → List Element
contents_with joined first part durations parts = initialization part ∷ timeline_with joined first durations ∷ map segment_url parts

-- segments of these durations and files, the first of which begins at a media time; the media time of the Period's start is
-- written where it is given
abbrev pub list_with : (joined : Bool) (ticks : ℕ) (offset : Option ℕ) (first : ℕ) → Part → (durations : List ℕ) → List Part → Element
list_with joined ticks offset first part durations parts =
    node (codes "SegmentList") (head_attributes ticks offset) (contents_with joined first part durations parts)

-- the files of segments
abbrev pub parts_of : SegmentTimeline → List Timing → List Part
parts_of timeline listed = map (λ x. part_or_none (part_of_timing timeline x)) listed
