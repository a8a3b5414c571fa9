-- Segments whose names are URLs already: each has its own, and is made with it.
use Rattle.std.specs.Prelude.{◌≡◌, ℕ, ◌+◌, ◌-◌, ◌<◌, Bool, List, length, map, All, IfSome, MatchOption, slice_get, Some, Ok}
use Rattle.url_parts.specs.{Addresses.IsAddress, declared.address.Part.Part}
use Rattle.timeline.specs.{declared.entry.Scale.Scale, declared.entry.End.End, declared.fault.ListFault.ListFault}
use Rattle.timeline.specs.{declared.fault.ListFault.TheVariants.Memory, declared.names.Names.TheVariants.{List as Listed, Addresses}}
use Rattle.timeline.specs.{declared.span.Span.Span, declared.window.Window.Window, Expansions.{SegmentTimeline, Timing}}
use Rattle.timeline.specs.{Listed.{IsHeld, IsMade, Made, Rest, expansion, listed_from, part_of_timing}, Names.part_of}
use Rattle.timeline.specs.SegmentTimelines.{timeline_of_entries, timeline_of_duration, timeline_of_spans}
use Rattle.mpd_entries.specs.{declared.entry.SEntry.SEntry, declared.ref_part.RefPart.RefPart}

-- segment k has the first number plus k
abbrev pub AreNumbered : Type 0
AreNumbered = (timeline : SegmentTimeline) (window : Window) (k : ℕ)
    → IfSome (slice_get (expansion timeline window) k) (λ x. x.number ≡ timeline.first_number + k)

-- the list has a part at the segment's index, and the segment has it
abbrev pub HasPart : SegmentTimeline → List Part → Timing → Type 0
HasPart timeline parts x = MatchOption (slice_get parts (x.number - timeline.first_number)) ⊥ (λ part. part_of_timing timeline x ≡ Ok part)

abbrev pub HaveParts : SegmentTimeline → List Part → Type 0
HaveParts timeline parts = (window : Window) (place : ℕ) → All (HasPart timeline parts) (listed_from place timeline window)

abbrev pub TimelinesHaveParts : Type 0
TimelinesHaveParts = (entries : List SEntry) (end : End) (live : Bool) (scale : Scale) (parts : List Part) (timeline : SegmentTimeline) →
    timeline_of_entries entries end live scale (Addresses parts) ≡ Ok timeline → HaveParts timeline parts

abbrev pub DurationsHaveParts : Type 0
DurationsHaveParts = (duration : ℕ) (end : End) (live : Bool) (scale : Scale) (parts : List Part) (timeline : SegmentTimeline) →
    timeline_of_duration duration end live scale (Addresses parts) ≡ Ok timeline → HaveParts timeline parts

abbrev pub ListsHaveParts : Type 0
ListsHaveParts = (spans : List Span) (scale : Scale) (parts : List Part) (timeline : SegmentTimeline)
    → timeline_of_spans spans scale (Addresses parts) ≡ Ok timeline → HaveParts timeline parts

-- a segment that has its part is made with that, or memory runs out
abbrev pub PartsAreMade : Type 0
PartsAreMade = (old new : Rest) (parts : List Part) (made : Made) → All (HasPart old.timeline parts) old.left → IsMade old made new →
    slice_get parts (made.times.number - old.timeline.first_number) ≡ Some made.part

abbrev pub OnlyMemoryHolds : Type 0
OnlyMemoryHolds = (old new : Rest) (parts : List Part) (fault : ListFault) → All (HasPart old.timeline parts) old.left
    → IsHeld old fault new → fault ≡ Memory

-- the SegmentURL that refers to a URL
abbrev pub reference_to : Part → RefPart
reference_to part = record { reference = Some part.address; range = part.range }

-- a reference to a URL resolves to it, whatever the base
abbrev pub AreGivenAgain : Type 0
AreGivenAgain = (parts : List Part) (base : List ℕ) (place number time : ℕ) → All (λ part. IsAddress part.address) parts
    → place < length parts →
    part_of (Addresses parts) place number time ≡ part_of (Listed (map reference_to parts) base) place number time
