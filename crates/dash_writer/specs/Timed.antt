-- The MPD of a presentation with the decode times of its files (ISO/IEC 23009-1, 5.3).
use Rattle.std.specs.Prelude.{ℕ, zero, suc, ◌+◌, ◌-◌, ◌*◌, ◌^◌, ◌<◌, ◌≤◌, max, sum, List, [], ◌∷◌, length, take, drop, slice_get, All, Some}
use Rattle.std.specs.{Prelude.{option_map, option_and_then, option_to_list}, Int.div_ceil}
use Rattle.presentation.specs.{declared.parts.Content.Content, declared.track.Section.Section, Presented.{AreFilled, Presented, content_at}}
use Rattle.presentation.specs.{Presented.{listed_in, window_of}, Origins.CameFromPlaylists}
use Rattle.timeline.specs.{declared.window.Window.Window, Expansions.SegmentTimeline}
use Rattle.url_parts.specs.declared.address.Part.{Part}
use Rattle.segment_forms.specs.declared.form.Form.{Form}
use Rattle.dash_writer.specs.{declared.timed.TickRun.TickRun, Elements.Element, Forms.segments_with, Lists.parts_of}
use Rattle.dash_writer.specs.{Manifest.{CanBeListed as IsListed, all_period_attributes, root_attributes}, Outline.{Outline, outline_text}}

-- ---- Periods

-- when a track's last segment ends, in nanoseconds after its Period's start, rounded up
abbrev pub lasting : TickRun → ℕ
lasting run = div_ceil ((run.first - run.offset + sum run.durations) * 10 ^ 9) run.scale

-- when the last of some tracks does
abbrev pub longest : List TickRun → ℕ
longest [] = 0
longest (run ∷ runs) = max (lasting run) (longest runs)

-- the lengths of `count` sections, of `tracks` tracks each: a section lasts until its last track ends
abbrev pub lengths : (tracks count : ℕ) → List TickRun → List ℕ
lengths tracks zero times = []
lengths tracks (suc n) times = longest (take tracks times) ∷ lengths tracks n (drop tracks times)

-- sections of these lengths, one after another; their ids aren't written
abbrev pub sections_from : (start : ℕ) → (lengths : List ℕ) → List Section
sections_from start [] = []
sections_from start (n ∷ lengths) = record { id = []; start = start; length = Some n } ∷ sections_from (start + n) lengths

abbrev pub timed_sections : Presented → List TickRun → List Section
timed_sections p times = sections_from 0 (lengths (length p.tracks) (length p.sections) times)

-- ---- the segments of tracks

abbrev pub list_of : Form → Window → SegmentTimeline → Part → TickRun → Element
list_of form window runs part run =
    segments_with form run.scale (Some run.offset) run.first part run.durations (parts_of runs (listed_in window runs))

abbrev pub timed_list : Form → Window → Content → TickRun → Element
timed_list form window content run = list_of form window content.runs content.initialization run

-- the content of a track in a section
abbrev pub timed_lists : Form → Presented → List TickRun → (section place : ℕ) → List Element
timed_lists form p times section place = option_to_list (option_and_then
    (λ content. option_map (timed_list form (window_of p section) content) (slice_get times (section * length p.tracks + place)))
    (content_at p section place))

-- ---- the whole

abbrev pub timed_outline : Form → Presented → List TickRun → Outline
timed_outline form p times = record {
  root = root_attributes (timed_sections p times);
  periods = all_period_attributes 0 (timed_sections p times);
  tracks = p.tracks;
  lists = timed_lists form p times;
}

unfoldable pub timed_text : Form → Presented → List TickRun → List ℕ
timed_text form p times = outline_text (timed_outline form p times)

-- ---- what can be written

-- the timescale isn't 0, the first segment doesn't begin before the Period, and the last one ends below 2^63
pub record CanBeCounted (run : TickRun) : Type 0 where
  pub scale : 0 < run.scale
  pub begins : run.offset ≤ run.first
  pub ends : run.first + sum run.durations < 2 ^ 63

-- one run for each section and track, by section, then by track
pub record CanBeTimed (p : Presented) (times : List TickRun) : Type 0 where
  pub origin : CameFromPlaylists p
  pub filled : AreFilled (length p.sections) (length p.tracks) (length times)
  pub counted : All CanBeCounted times
  pub total : sum (lengths (length p.tracks) (length p.sections) times) < 10 ^ 19

-- the segments of a track in a section can be listed, with times
pub record CanBeListed (p : Presented) (times : List TickRun) (section place : ℕ) : Type 0 where
  pub listed : IsListed p section place
  pub timed : section * length p.tracks + place < length times
