-- Where a presentation's times differ from the decode times of its files.
use Rattle.std.specs.Prelude.{ℕ, ◌+◌, ◌*◌, ◌+ℤ◌, Bool, List, [], ◌∷◌, length, map, slice_get, if◌then◌else◌, Option, Some, None}
use Rattle.std.specs.Option.{option_map_or}
use Rattle.bridge_io.specs.Firsts.{first_some}
use Rattle.exact_time.specs.Time.{Time, cross, in_units}
use Rattle.timeline.specs.{Expansions.Timing, Listed.offset_of}
use Rattle.meaning.specs.Differences.{is_same_time}
use Rattle.presentation.specs.{declared.parts.Content.Content, Counting.{sections_of, tracks_of}, Presented.{Presented, content_at}}
use Rattle.presentation.specs.Presented.{listed_at}
use Rattle.fragment_times.specs.{declared.fault.SegmentSpot.SegmentSpot, declared.times.SegmentTimes.SegmentTimes, Refusals.next_spot}

-- ---- a segment

abbrev pub sum_of : Time → Time → Time
sum_of x y = record { ticks = cross x y +ℤ cross y x; scale = x.scale * y.scale }

-- a start, relative to the Period's start, is a media time in ticks
abbrev pub is_same : (offset : Time) → (scale : ℕ) → Time → ℕ → Bool
is_same offset scale start time = is_same_time (sum_of start offset) (in_units scale time)

-- ---- segments in order, given the spot of the first one

abbrev pub apart_from : SegmentSpot → (offset : Time) → (scale : ℕ) → List Timing → List ℕ → Option SegmentSpot
apart_from at offset scale [] times = None
apart_from at offset scale (x ∷ xs) [] = None
apart_from at offset scale (x ∷ xs) (time ∷ times) =
    if is_same offset scale x.start time then apart_from (next_spot at) offset scale xs times else Some at

abbrev pub own_apart : SegmentSpot → List Timing → Content → SegmentTimes → Option SegmentSpot
own_apart at listed content times = apart_from at (offset_of content.runs) times.scale listed times.starts

-- ---- section by section, track by track

-- an index without times has nothing
unfoldable pub apart_at : Presented → List SegmentTimes → (s t : ℕ) → Option SegmentSpot
apart_at p times s t = option_map_or (λ content. option_map_or
    (own_apart (record { section = s; track = t; segment = 0 }) (listed_at p s t) content) (slice_get times (s * length p.tracks + t)) None)
    (content_at p s t) None

abbrev pub apart_in : Presented → List SegmentTimes → (s : ℕ) → Option SegmentSpot
apart_in p times s = first_some (map (apart_at p times s) (tracks_of p))

-- the first listed segment whose media time isn't the decode time of its file
abbrev pub first_apart : Presented → List SegmentTimes → Option SegmentSpot
first_apart p times = first_some (map (apart_in p times) (sections_of p))
