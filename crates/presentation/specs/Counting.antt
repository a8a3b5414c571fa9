-- How many segments are listed, and why counting rejects them.
use Rattle.std.specs.Prelude.{ℕ, ◌+◌, ◌*◌, ◌==◌, ◌&&◌, ◌||◌, not, nat_lt, min, ◌-◌, ◌^◌, Bool, List, [], ◌∷◌, ◌++◌, length, slice_get}
use Rattle.std.specs.{Prelude.{sum_by, flat_map, if◌then◌else◌, Option, Some, None, Result, Ok, Err, unwrap_or}, List.range_with_len}
use Rattle.std.specs.{List.list_any, Option.option_map_or}
use Rattle.bridge_io.specs.declared.place.Place.{Place}
use Rattle.timeline.specs.{declared.fault.TimeFault.TimeFault, Listed.answered_count}
use Rattle.presentation.specs.{declared.fault.PresentationFault.PresentationFault, declared.fault.PresentationFault.TheVariants.Limit}
use Rattle.presentation.specs.{declared.fault.PresentationFault.TheVariants.{NoSegments, Timeline, Memory}, Presented.Presented}
use Rattle.presentation.specs.Presented.{is_finished, window_of, content_at}

-- out of memory says nothing about a presentation
abbrev pub refusal : PresentationFault → Option PresentationFault
refusal Memory = None
refusal fault = Some fault

-- the first of some faults, or a value where there is none
abbrev pub unless_any : {X : Type 0} → List PresentationFault → X → Result X PresentationFault
unless_any [] x = Ok x
unless_any (fault ∷ faults) x = Err fault

-- the indices of the sections, and of the tracks
abbrev pub sections_of : Presented → List ℕ
sections_of p = range_with_len 0 (length p.sections)

abbrev pub tracks_of : Presented → List ℕ
tracks_of p = range_with_len 0 (length p.tracks)

-- how many segments of a track are listed in a section
abbrev pub count_at : Presented → ℕ → ℕ → Result ℕ TimeFault
count_at p t s = option_map_or (λ content. answered_count content.runs (window_of p s)) (content_at p s t) (Ok 0)

-- the position of its Representation
abbrev pub place_at : Presented → ℕ → ℕ → Place
place_at p t s = unwrap_or (slice_get p.places (s * length p.tracks + t)) (record { at = 0; line = 1 })

abbrev pub number_in : Result ℕ TimeFault → ℕ
number_in (Ok n) = n
number_in (Err fault) = 0

abbrev pub listed_count : Presented → ℕ → ℕ → ℕ
listed_count p t s = number_in (count_at p t s)

abbrev pub count_of_track : Presented → ℕ → ℕ
count_of_track p t = sum_by (listed_count p t) (sections_of p)

abbrev pub count_of_all : Presented → ℕ
count_of_all p = sum_by (count_of_track p) (tracks_of p)

-- a track has segments in each section of a VOD presentation
abbrev pub faults_of_count : (finished : Bool) → (t s : ℕ) → Place → Result ℕ TimeFault → List PresentationFault
faults_of_count finished t s place (Err fault) = Timeline fault place ∷ []
faults_of_count finished t s place (Ok n) = if finished && n == 0 then NoSegments s t ∷ [] else []

abbrev pub section_faults : Presented → ℕ → ℕ → List PresentationFault
section_faults p t s = faults_of_count (is_finished p) t s (place_at p t s) (count_at p t s)

-- and in some section of a followed one
abbrev pub whole_track_faults : Presented → ℕ → List PresentationFault
whole_track_faults p t = if not (is_finished p) && count_of_track p t == 0 then NoSegments 0 t ∷ [] else []

abbrev pub track_faults : Presented → ℕ → List PresentationFault
track_faults p t = flat_map (section_faults p t) (sections_of p) ++ whole_track_faults p t

-- at most 100,000 segments of a track, and 500,000 in all
abbrev pub is_long : Presented → ℕ → Bool
is_long p t = nat_lt 100000 (count_of_track p t)

abbrev pub is_over : Presented → Bool
is_over p = list_any (is_long p) (tracks_of p) || nat_lt 500000 (count_of_all p)

abbrev pub limit_faults : Bool → List PresentationFault
limit_faults over = if over then Limit ∷ [] else []

-- track by track, section by section, and then the limits
abbrev pub count_faults : Presented → List PresentationFault
count_faults p = flat_map (track_faults p) (tracks_of p) ++ limit_faults (is_over p)

-- the fault of segments up to an open end that break a limit, without counting
abbrev pub range_by : Presented → (t s : ℕ) → Result ℕ TimeFault → List PresentationFault
range_by p t s (Ok n) = []
range_by p t s (Err fault) = Timeline fault (place_at p t s) ∷ []

abbrev pub range_at : Presented → (t s : ℕ) → List PresentationFault
range_at p t s = range_by p t s (count_at p t s)

abbrev pub range_faults_of : Presented → (t : ℕ) → List PresentationFault
range_faults_of p t = flat_map (range_at p t) (sections_of p)

abbrev pub range_faults : Presented → List PresentationFault
range_faults p = flat_map (range_faults_of p) (tracks_of p)

-- how many segments are listed, or the first fault
unfoldable pub counted : Presented → Result ℕ PresentationFault
counted p = unless_any (count_faults p) (count_of_all p)

-- ---- the same section by section and track by track; counts stop at the last value of a counter

abbrev pub capped : ℕ → ℕ
capped n = min (2 ^ 64 - 1) n

abbrev pub counted_at : Presented → ℕ → ℕ → Result ℕ PresentationFault
counted_at p t s = unless_any (section_faults p t s) (number_in (count_at p t s))

abbrev pub counted_of_track : Presented → ℕ → Result ℕ PresentationFault
counted_of_track p t = unless_any (track_faults p t) (capped (count_of_track p t))

abbrev pub unless_over : Bool → ℕ → Result ℕ PresentationFault
unless_over over total = unless_any (limit_faults over) total

abbrev pub time_fault : Presented → ℕ → ℕ → TimeFault → PresentationFault
time_fault p t s fault = Timeline fault (place_at p t s)
