-- The segments of a Representation as they are listed (ISO/IEC 23009-1, 5.3.9).
use Rattle.std.specs.Prelude.{ℕ, ◌==◌, ◌&&◌, ◌-ℤ◌, Bool, List, [], ◌∷◌, ◌++◌, length, map, codes, decimal, Option, Some, None, option_map}
use Rattle.std.specs.Prelude.{if◌then◌else◌, Result, Ok, Err}
use Rattle.url_parts.specs.declared.address.Part.{Part}
use Rattle.timeline.specs.{declared.fault.ListFault.ListFault, Expansions.{SegmentTimeline, Timing}, Listed.part_of_timing, Ratios.natural}
use Rattle.dash_writer.specs.{Elements.{Attribute, Element, leaf, node}, Runs.longest_runs, Values.range_text}

-- S (5.3.9.6): segments of equal duration, `repeats` after the first one
abbrev pub s_element : (time : Option ℕ) → (duration repeats : ℕ) → Element
s_element time duration repeats = leaf (codes "S") (
    (codes "t", option_map decimal time)
    ∷ (codes "d", Some (decimal duration))
    ∷ (codes "r", if repeats == 0 then None else Some (decimal repeats))
    ∷ []
    )

-- a run of equal durations, which is never empty
abbrev pub s_of : (time : Option ℕ) → List ℕ → List Element
s_of time [] = []
s_of time (duration ∷ others) = s_element time duration (length others) ∷ []

-- one S for each run; `time` is the `@t` of the first one
abbrev pub s_elements : (time : Option ℕ) → List (List ℕ) → List Element
s_elements time [] = []
s_elements time (run ∷ runs) = s_of time run ++ s_elements None runs

-- how long a segment lasts, in ticks
abbrev pub duration_of : Timing → ℕ
duration_of x = natural (x.end.ticks -ℤ x.start.ticks)

abbrev pub same_duration : ℕ → ℕ → Bool
same_duration one other = one == other

-- whether two neighbours share an S, where segments are joined at all
abbrev pub joins : (joined : Bool) → ℕ → ℕ → Bool
joins joined one other = joined && same_duration one other

-- the part of a segment that has a URL
abbrev pub part_or_none : Result Part ListFault → Part
part_or_none (Ok part) = part
part_or_none (Err fault) = record { address = []; range = None }

-- SegmentURL (5.3.9.3.2)
abbrev pub segment_url : Part → Element
segment_url part = leaf (codes "SegmentURL") ((codes "media", Some part.address) ∷ (codes "mediaRange", option_map range_text part.range)
    ∷ [])

-- Initialization (5.3.9.2.2)
abbrev pub initialization : Part → Element
initialization part = leaf (codes "Initialization") ((codes "sourceURL", Some part.address)
    ∷ (codes "range", option_map range_text part.range) ∷ [])
