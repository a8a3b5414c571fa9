-- Which segments an update lists after those that were listed before: Period by Period, where the Periods have consecutive
-- indices.
use Rattle.std.specs.Prelude.{◌≡◌, ℕ, ◌+◌, ◌-◌, ◌^◌, ◌<◌, ◌≤◌, true, List, [], ◌∷◌, map, filter, flat_map, length, Option, Some, None}
use Rattle.std.specs.{Prelude.{option_map, false, IfSome}, Option.option_map_or}
use Rattle.exact_time.specs.{Tick.time_of, Time.IsAtMost, declared.tick.Tick.Tick}
use Rattle.timeline.specs.{Expansions.{SegmentTimeline, Timing}, Faults.is_apart}
use Rattle.iso_time.specs.Instant.{IsReadable}
use Rattle.presentation.specs.{declared.fault.PresentationFault.PresentationFault, declared.parts.Content.Content}
use Rattle.presentation.specs.{declared.segments.Behind.Behind, Counting.sections_of, Kept.{printed_rest, rounding_at}, Presented.Presented}
use Rattle.presentation.specs.{Presented.{content_at, listed_at, looked_at, start_of}, Printing.{IsCounted, PrintedRest, later_than}}
use Rattle.presentation.specs.Verifying.{part_faults}
use Rattle.followed.specs.Durations.{Last}
use Rattle.live_meaning.specs.{Segments.{Numbering, Segment, is_later, segment_with}, Refusals.extent_of, States.Track}
use Rattle.live_judge.specs.{declared.track.LastKept.LastKept, Shown.last_of}
use Rattle.live_session.specs.{declared.maker.Maker.Maker, Kept.no_place}

-- ---- the new segments of a track

-- a track with this last segment and its Period's index
abbrev pub track_at : Option LastKept → Track
track_at last = record { kept = []; first = 0; last = option_map last_of last; place = no_place last }

abbrev pub new_timings : Presented → (k : ℕ) → Track → (t s : ℕ) → List Timing
new_timings p k track t s = filter (λ x. option_map_or (λ last. is_later last track.place (k + s) x.end) track.last true) (listed_at p s t)

abbrev pub segments_in : Numbering → (k : ℕ) → Presented → (s : ℕ) → List Timing → Content → List Segment
segments_in n k p s xs content = map (segment_with n (k + s) (start_of p s) content) xs

abbrev pub new_in : Numbering → Presented → (k : ℕ) → Track → (t s : ℕ) → List Segment
new_in n p k track t s = option_map_or (segments_in n k p s (new_timings p k track t s)) (content_at p s t) []

abbrev pub new_among : Numbering → Presented → (k : ℕ) → Track → (t : ℕ) → (sections : List ℕ) → List Segment
new_among n p k track t sections = flat_map (new_in n p k track t) sections

abbrev pub new_all : Numbering → Presented → (k : ℕ) → Track → (t : ℕ) → List Segment
new_all n p k track t = new_among n p k track t (sections_of p)

-- ---- those without a URL

-- a segment's index is that among the listed ones
abbrev pub faults_by : (s t : ℕ) → (listed : ℕ) → List Timing → Content → List PresentationFault
faults_by s t listed new content = part_faults content.runs s t (listed - length new) new

abbrev pub new_faults_in : Presented → (k : ℕ) → Track → (t s : ℕ) → List PresentationFault
new_faults_in p k track t s = option_map_or (faults_by s t (length (listed_at p s t)) (new_timings p k track t s)) (content_at p s t) []

abbrev pub new_faults_among : Presented → (k : ℕ) → Track → (t : ℕ) → (sections : List ℕ) → List PresentationFault
new_faults_among p k track t sections = flat_map (new_faults_in p k track t) sections

abbrev pub new_faults_of : Presented → (k : ℕ) → Track → (t : ℕ) → List PresentationFault
new_faults_of p k track t = new_faults_among p k track t (sections_of p)

-- ---- how they continue after the last one

-- the first of some segments, where it is in the section of the last one, has no gap or overlap of more than half its duration
abbrev pub joins : Option Last → List Segment → Type 0
joins None xs = Unit {0}
joins (Some l) [] = Unit {0}
joins (Some l) (x ∷ xs) = x.section ≡ l.section → is_apart (Some l.end) (extent_of x) ≡ false

-- the last one ends after its section begins, and its section is that of its Period and some resets so far
pub record IsBegun (resets : ℕ) (track : Track) : Type 0 where
  pub begun : IfSome track.last (λ l. IsAtMost l.first l.end)
  pub numbered : IfSome track.last (λ l. l.section ≤ track.place + resets)

-- ---- what makes them

abbrev pub shown_by : Maker → Presented
shown_by m = looked_at m.now m.presentation.now

abbrev pub numbers_of : Maker → Numbering
numbers_of m = record { ids = []; resets = m.resets; availability_start = m.availability_start }

pub record CanMake (m : Maker) : Type 0 where
  pub readable : IsReadable m.availability_start
  pub counted : (s t : ℕ) → s < length m.presentation.now.sections → t < length m.presentation.now.tracks → IsCounted (shown_by m) s t
  pub fits : m.place + length m.presentation.now.sections + m.resets < 2 ^ 63

-- the listed segments, or those that end after a time
abbrev pub later_listed : Option Tick → List Timing → List Timing
later_listed None xs = xs
later_listed (Some end) xs = later_than (time_of end) xs

-- those of them that are still to be made
abbrev pub left_to_make : Option Behind → (unit : ℕ) → SegmentTimeline → List Timing → PrintedRest
left_to_make behind unit timeline xs = printed_rest (record { timeline = timeline; left = xs }) (rounding_at behind unit xs)
