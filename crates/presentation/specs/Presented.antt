-- Presentations.
use Rattle.std.specs.Prelude.{◌≡◌, ℕ, ◌+◌, ◌*◌, ℤ, pos, ◌-ℤ◌, Bool, false, List, [], length, slice_get, Option, Some, None, option_map}
use Rattle.std.specs.{Prelude.is_none, Option.option_map_or}
use Rattle.bridge_io.specs.declared.place.Place.{Place}
use Rattle.timeline.specs.{declared.window.Window.Window, Expansions.{SegmentTimeline, Timing, is_open}, Listed.{listed, expansion}}
use Rattle.presentation.specs.{declared.presentation.Following.Following as Kept, declared.track.Track.Track}
use Rattle.presentation.specs.{declared.track.Section.Section, declared.parts.Content.Content, declared.parts.Parts.Parts}

-- The timing of a followed presentation: the current time, availabilityStartTime and timeShiftBufferDepth, in nanoseconds
-- (ISO/IEC 23009-1, 5.3.1.2).
pub record Following : Type 0 where
  pub instant : ℤ
  pub availability_start : ℤ
  pub depth : Option ℕ

-- The tracks, the sections, and the content of each track in each section, by section, then by track; how many sets and
-- tracks were dropped; the timing, where it is followed; and the position of each Representation.
pub record Presented : Type 0 where
  pub tracks : List Track
  pub sections : List Section
  pub contents : List Content
  pub left_out : ℕ
  pub following : Option Following
  pub places : List Place

-- the presentation of parts, with its timing where it is followed, and the positions of its Representations
abbrev pub of_placed : Parts → Option Following → List Place → Presented
of_placed parts following places = record {
  tracks = parts.tracks;
  sections = parts.sections;
  contents = parts.contents;
  left_out = parts.left_out;
  following = following;
  places = places;
}

-- the VOD presentation of parts
abbrev pub of_parts : Parts → Presented
of_parts parts = of_placed parts None []

-- the value of the code's type
abbrev pub following_of : Kept → Following
following_of f = record { instant = f.instant; availability_start = f.availability_start; depth = f.depth }

abbrev pub is_finished : Presented → Bool
is_finished p = is_none p.following

-- relative to a Period's start: the time after which listed segments end, and the time by which they do
abbrev pub window_at : Following → ℕ → Window
window_at f start = let until = (f.instant -ℤ f.availability_start) -ℤ pos start in
    record { after = option_map (λ depth. until -ℤ pos depth) f.depth; until = Some until }

-- the same at another time
abbrev pub at_instant : ℤ → Following → Following
at_instant now f = record f { instant = now }

abbrev pub looked_at : ℤ → Presented → Presented
looked_at now p = record p { following = option_map (at_instant now) p.following }

-- a VOD presentation lists all segments
abbrev pub whole_window : Window
whole_window = record { after = None; until = None }

abbrev pub start_of : Presented → ℕ → ℕ
start_of p s = option_map_or (λ section. section.start) (slice_get p.sections s) 0

-- the window of a Period with this start, and that of a section
abbrev pub window_from : Presented → (start : ℕ) → Window
window_from p start = option_map_or (λ f. window_at f start) p.following whole_window

abbrev pub window_of : Presented → ℕ → Window
window_of p s = window_from p (start_of p s)

-- the content of a track in a section
abbrev pub content_at : Presented → ℕ → ℕ → Option Content
content_at p s t = slice_get p.contents (s * length p.tracks + t)

-- the listed segments of a track in a section
abbrev pub listed_in : Window → SegmentTimeline → List Timing
listed_in window timeline = listed window (expansion timeline window)

abbrev pub listed_at : Presented → ℕ → ℕ → List Timing
listed_at p s t = option_map_or (λ content. listed_in (window_of p s) content.runs) (content_at p s t) []

-- no segments continue to an open end
abbrev pub IsEnded : Content → Type 0
IsEnded content = is_open content.runs.members ≡ false

-- one content for each section and track
abbrev pub AreFilled : (sections tracks contents : ℕ) → Type 0
AreFilled sections tracks contents = contents ≡ sections * tracks
