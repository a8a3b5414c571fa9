-- Whether each listed segment has a URL, and the longest printed duration of each track.
use Rattle.timeline.specs.declared.fault.ListFault.TheVariants as list_fault
use Rattle.presentation.specs.declared.fault.Spot.TheVariants as spot
use Rattle.std.specs.{Prelude.{ℕ, ◌+◌, ◌<◌, List, [], ◌∷◌, ◌++◌, length, map, flat_map, max, Result, Ok, Err}, Option.option_map_or}
use Rattle.exact_time.specs.{Time.{Time, difference}, Floor.floor_in}
use Rattle.url_parts.specs.declared.address.Part.{Part}
use Rattle.timeline.specs.{declared.fault.ListFault.ListFault, Expansions.{SegmentTimeline, Timing}, Listed.part_of_timing}
use Rattle.presentation.specs.{declared.fault.PresentationFault.PresentationFault, declared.fault.PresentationFault.TheVariants.Url}
use Rattle.presentation.specs.{declared.fault.PresentationFault.TheVariants.Memory, Presented.{Presented, content_at, listed_at}}
use Rattle.presentation.specs.{Counting.{unless_any, sections_of, tracks_of, count_faults}, Printing.{PrintedTiming, PrintedRest}}
use Rattle.presentation.specs.Printing.{durations_of, IsCounted}

-- the fault of a segment that isn't made
abbrev pub fault_at : (s t k : ℕ) → ListFault → PresentationFault
fault_at s t k (list_fault.Url fault) = Url fault (spot.Segment s t k)
fault_at s t k list_fault.Memory = Memory

-- the fault of a segment without a URL
abbrev pub part_fault : (s t k : ℕ) → Result Part ListFault → List PresentationFault
part_fault s t k (Ok part) = []
part_fault s t k (Err fault) = fault_at s t k fault ∷ []

-- the same for segments in order, the first of which is the k-th
abbrev pub part_faults : SegmentTimeline → (s t k : ℕ) → List Timing → List PresentationFault
part_faults timeline s t k [] = []
part_faults timeline s t k (x ∷ xs) = part_fault s t k (part_of_timing timeline x) ++ part_faults timeline s t (k + 1) xs

-- for the listed segments of a track in a section
abbrev pub url_faults_at : Presented → ℕ → ℕ → List PresentationFault
url_faults_at p t s = option_map_or (λ content. part_faults content.runs s t 0 (listed_at p s t)) (content_at p s t) []

-- track by track, section by section, segment by segment
abbrev pub url_faults_of : Presented → ℕ → List PresentationFault
url_faults_of p t = flat_map (url_faults_at p t) (sections_of p)

abbrev pub url_faults : Presented → List PresentationFault
url_faults p = flat_map (url_faults_of p) (tracks_of p)

abbrev pub greatest : List ℕ → ℕ
greatest [] = 0
greatest (n ∷ ns) = max n (greatest ns)

-- a track's longest printed duration, given the units per second
abbrev pub longest_at : Presented → ℕ → ℕ → ℕ → ℕ
longest_at p unit t s = greatest (durations_of unit (listed_at p s t))

abbrev pub longest_of : Presented → ℕ → ℕ → ℕ
longest_of p unit t = greatest (map (longest_at p unit t) (sections_of p))

-- that of each track, where no count and no URL is rejected
unfoldable pub verified : Presented → ℕ → Result (List ℕ) PresentationFault
verified p unit = unless_any (count_faults p ++ url_faults p) (map (longest_of p unit) (tracks_of p))

-- the same for a track, and for a track in a section
abbrev pub verified_track : Presented → ℕ → ℕ → Result ℕ PresentationFault
verified_track p unit t = unless_any (url_faults_of p t) (longest_of p unit t)

abbrev pub verified_at : Presented → ℕ → ℕ → ℕ → Result ℕ PresentationFault
verified_at p unit t s = unless_any (url_faults_at p t s) (longest_at p unit t s)

-- the same for the segments that are left
abbrev pub times_of : List PrintedTiming → List Timing
times_of xs = map (λ x. x.times) xs

abbrev pub longest_left : List PrintedTiming → ℕ
longest_left xs = greatest (map (λ x. x.duration) xs)

abbrev pub verified_rest : PrintedRest → ℕ → ℕ → Result ℕ PresentationFault
verified_rest rest s t = unless_any (part_faults rest.timeline s t 0 (times_of rest.left)) (longest_left rest.left)

-- the segments of a track are within the limits of times in each section
abbrev pub IsTrackCounted : Presented → ℕ → Type 0
IsTrackCounted p t = (s : ℕ) → s < length p.sections → IsCounted p s t

-- the end of the last of some segments that follow one that ends at a time
abbrev pub last_end : Time → List Timing → Time
last_end former [] = former
last_end former (x ∷ xs) = last_end x.end xs

-- from the first listed segment's start to the last one's end
abbrev pub length_of : ℕ → List Timing → ℕ
length_of unit [] = 0
length_of unit (x ∷ xs) = floor_in unit (difference (last_end x.end xs) x.start)
