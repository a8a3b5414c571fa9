-- What the text of an MPD with the decode times of its files means.
use Rattle.std.specs.Prelude.{◌≡◌, ℕ, ◌+◌, ◌-◌, ◌*◌, ◌<◌, ℤ, false, List, [], ◌∷◌, All, length, map, slice_get, decimal, Option, Some, None}
use Rattle.std.specs.{Prelude.{option_map, option_and_then, IfSome}, List.AllByRecursion, Result.result_ok}
use Rattle.url_parts.specs.declared.address.Part.{Part}
use Rattle.meaning.specs.{Meanings.{Entry, Meaning, Segment, Track}, Same.Same}
use Rattle.timeline.specs.{declared.names.Names.TheVariants.Addresses, Expansions.{Closed, Extent}}
use Rattle.mpd_tree.specs.Meaning.{reading_of}
use Rattle.mpd_levels.specs.Segments.{Segments}
use Rattle.mpd_rules.specs.Rules.{dash_values}
use Rattle.presentation.specs.{declared.parts.Content.Content, declared.track.Section.Section}
use Rattle.presentation.specs.{Presented.{Presented, content_at, listed_in, whole_window}, Meanings.{entry_at, meaning_of, part_meant}}
use Rattle.mpd_presentation.specs.Meanings.{dash_meaning}
use Rattle.segment_forms.specs.declared.form.Form.{Form}
use Rattle.dash_writer.specs.{Lists.parts_of, Timed.{CanBeTimed, timed_sections, timed_text}, declared.timed.TickRun.TickRun}
use Rattle.laws_of_mpds.specs.{Meant.IsWritable, Rows.in_row, Shown.{Shown, shown_of, shown_periods}, Texts.IsTellable}
use Rattle.laws_of_mpds.specs.Told.{IsShort, segments_told}

-- ---- a presentation with the decode times of its files

-- the files of all segments
abbrev pub files_of : Content → List Part
files_of c = parts_of c.runs (listed_in whole_window c.runs)

-- The same files, each of which begins where the one before it ends: the first one at its media time minus that of the section's
-- start, and the others after the sums of the durations, in ticks of the run's scale.
abbrev pub content_with : Content → TickRun → Content
content_with c run = record {
  initialization = c.initialization;
  runs = record {
    members = map Closed (in_row run.scale (run.first - run.offset) run.durations);
    ticks = run.scale;
    origin = 0;
    offset = run.offset;
    first_number = 1;
    names = Addresses (files_of c);
  };
}

abbrev pub contents_with : List Content → List TickRun → List Content
contents_with [] times = []
contents_with (c ∷ contents) [] = []
contents_with (c ∷ contents) (run ∷ times) = content_with c run ∷ contents_with contents times

-- the same tracks, in sections that last until the last one ends
abbrev pub timed_as : Presented → List TickRun → Presented
timed_as p times = record p { sections = timed_sections p times; contents = contents_with p.contents times }

-- a duration above 0 for each file, and a scale of at most 64 digits
pub record AreTimesOf (c : Content) (run : TickRun) : Type 0 where
  pub one_each : length run.durations ≡ length (files_of c)
  pub lasting : AllByRecursion (λ d. 0 < d) run.durations
  pub scale : IsShort run.scale

pub record IsTimed (p : Presented) (times : List TickRun) : Type 0 where
  pub can : CanBeTimed p times
  pub each : (i : ℕ) (c : Content) (run : TickRun) → slice_get p.contents i ≡ Some c → slice_get times i ≡ Some run → AreTimesOf c run

-- at any URL and time
abbrev pub TimedTextsMean : Type 0
TimedTextsMean = (form : Form) (p : Presented) (times : List TickRun) (url : List ℕ) (now : Option ℤ) → IsWritable p
    → All IsTellable p.tracks
    → IsTimed p times → dash_meaning (timed_text form p times) url now ≡ Some (meaning_of (timed_as p times))

-- ---- what stays the same, and what changes

-- the same tracks, init segments, URLs and byte ranges in order, at any times
abbrev pub SameButTimes : Meaning → Meaning → Type 0
SameButTimes a b = Same (λ x y. Unit {0}) a b

abbrev pub TimedKeepTheirFiles : Type 0
TimedKeepTheirFiles = (p : Presented) (times : List TickRun) → IsWritable p → IsTimed p times
    → SameButTimes (meaning_of p) (meaning_of (timed_as p times))

-- the files of a content's segments
abbrev pub meant_parts : Content → List Part
meant_parts c = map (part_meant c.runs) (listed_in whole_window c.runs)

-- what holds for each track in each section in which it has content
abbrev pub EachEntry : (Entry → Type 0) → Meaning → Type 0
EachEntry Of m = All (λ (track : Track). All (λ (entry : Option Entry). IfSome entry Of) track.entries) m.tracks

-- each segment ends when the next one begins
abbrev pub AreJoined : List Segment → Type 0
AreJoined [] = Unit {0}
AreJoined (x ∷ []) = Unit {0}
AreJoined (x ∷ y ∷ later) = (x.end ≡ y.start) × AreJoined (y ∷ later)

-- the files of a track in a section, each of which begins where the one before it ends, and the first one at its media time minus
-- that of the section's start
pub record AreFilesOf (p : Presented) (times : List TickRun) (section place : ℕ) (entry : Entry) : Type 0 where
  pub content : Content
  pub there : content_at p section place ≡ Some content
  pub run : TickRun
  pub timed : slice_get times (section * length p.tracks + place) ≡ Some run
  pub initialization : entry.initialization ≡ content.initialization
  pub parts : map (λ (x : Segment). x.part) entry.segments ≡ meant_parts content
  pub starts : map (λ (x : Segment). x.start) entry.segments
      ≡ map (λ (x : Extent). x.start) (in_row run.scale (run.first - run.offset) run.durations)
  pub joined : AreJoined entry.segments

abbrev pub TimedBeginInRow : Type 0
TimedBeginInRow = (p : Presented) (times : List TickRun) (section place : ℕ) → IsWritable p → IsTimed p times
    → section < length p.sections → place < length p.tracks
    → IfSome (entry_at (timed_as p times) section place) (AreFilesOf p times section place)

-- ---- the segments that are read back

-- the media time of the Period's start, and that of the first segment, which the first S has
abbrev pub run_told : Form → Content → TickRun → Segments
run_told form c run = segments_told form run.scale run.offset run.first c.initialization run.durations (files_of c)

abbrev pub told_in : Form → Presented → List TickRun → (section place : ℕ) → Option Segments
told_in form p times section place = option_and_then (λ (c : Content). option_map (run_told form c) (slice_get times
    (section * length p.tracks + place)))
    (content_at p section place)

abbrev pub timed_shown : Form → Presented → List TickRun → Shown
timed_shown form p times = record {
  dynamic = false;
  availability_start = None;
  publish_time = None;
  periods = shown_periods (λ place (section : Section). decimal place) (λ (section : Section). section.start) (told_in form p times)
      p.tracks 0 (timed_sections p times);
}

abbrev pub TimedTextsAreRead : Type 0
TimedTextsAreRead = (form : Form) (p : Presented) (times : List TickRun) → IsWritable p → All IsTellable p.tracks → IsTimed p times
    → option_map (λ tree. shown_of (dash_values tree)) (result_ok (reading_of (timed_text form p times))) ≡ Some (timed_shown form p times)
