-- The times of a presentation's segments by their files.
use Rattle.std.specs.{Prelude.{◌≡◌, ℕ, ◌<◌, List, [], ◌∷◌, ◌++◌, length, map, All, IfSome, Result, Ok}, Option.option_map_or}
use Rattle.bridge_io.specs.{Answer.{and_then, gathered}, Outside.Files}
use Rattle.url_parts.specs.declared.address.Part.{Part}
use Rattle.timeline.specs.{declared.window.Window.Window, Expansions.{SegmentTimeline, Timing}}
use Rattle.presentation.specs.{declared.parts.Content.Content, Counting.{sections_of, tracks_of}, Meanings.part_meant}
use Rattle.presentation.specs.Presented.{AreFilled, Presented, content_at, listed_in, window_of}
use Rattle.fragment_times.specs.{declared.fault.TimesFault.TimesFault, declared.times.SegmentTimes.SegmentTimes, Parts.{scale_at, start_at}}

-- ---- one thing after another

abbrev pub alone : {X : Type 0} → Result X TimesFault → Result (List X) TimesFault
alone told = and_then told (λ x. Ok (x ∷ []))

-- what each member of a list gives, in order, or the first error
abbrev pub each : {X Y : Type 0} → (X → Result Y TimesFault) → List X → Result (List Y) TimesFault
each give xs = gathered (λ x. alone (give x)) xs

-- the same, appended to a list
abbrev pub behind : {X : Type 0} → (former : List X) → Result (List X) TimesFault → Result (List X) TimesFault
behind former told = and_then told (λ later. Ok (former ++ later))

-- ---- a track in a section: first the init segment, then the segments in order

-- the files of listed segments
abbrev pub parts_of : SegmentTimeline → List Timing → List Part
parts_of timeline listed = map (part_meant timeline) listed

-- the decode times of segments
abbrev pub all_starts : (folder : List ℕ) → Files → List Part → Result (List ℕ) TimesFault
all_starts folder files parts = each (start_at folder files) parts

abbrev pub times_with : (scale : ℕ) → (starts : List ℕ) → SegmentTimes
times_with scale starts = record { scale = scale; starts = starts }

abbrev pub content_times : (folder : List ℕ) → Files → Window → Content → Result SegmentTimes TimesFault
content_times folder files window content =
    and_then (scale_at folder files content.initialization) (λ scale.
    and_then (all_starts folder files (parts_of content.runs (listed_in window content.runs))) (λ starts. Ok (times_with scale starts)))

-- an index out of range has nothing
unfoldable pub times_at : (folder : List ℕ) → Files → Presented → (s t : ℕ) → Result SegmentTimes TimesFault
times_at folder files p s t = option_map_or (content_times folder files (window_of p s)) (content_at p s t) (Ok (times_with 1 []))

-- ---- section by section, track by track

abbrev pub section_times : (folder : List ℕ) → Files → Presented → (s : ℕ) → Result (List SegmentTimes) TimesFault
section_times folder files p s = each (times_at folder files p s) (tracks_of p)

-- the times of all segments' files, or the first error
unfoldable pub times_of : (folder : List ℕ) → Files → Presented → Result (List SegmentTimes) TimesFault
times_of folder files p = gathered (section_times folder files p) (sections_of p)

-- one for each section and track
abbrev pub FillPlaces : Presented → (count : ℕ) → Type 0
FillPlaces p count = AreFilled (length p.sections) (length p.tracks) count

-- the timescale isn't 0
abbrev pub IsScaled : SegmentTimes → Type 0
IsScaled times = 0 < times.scale

-- those that files state have one of at least 1
abbrev pub TimesAreScaled : Type 0
TimesAreScaled = (folder : List ℕ) (files : Files) (p : Presented) (times : List SegmentTimes) → times_of folder files p ≡ Ok times
    → All IsScaled times

-- the segments of a track in a section
abbrev pub IsTimelineAt : Presented → (s t : ℕ) → SegmentTimeline → Type 0
IsTimelineAt p s t timeline = IfSome (content_at p s t) (λ content. timeline ≡ content.runs)
