-- What the text of a live MPD is read as.
use Rattle.std.specs.Prelude.{◌≡◌, ℕ, ◌^◌, ◌<◌, ℤ, not, List, length, map, slice_get, decimal, All, Option, Some, None, option_map}
use Rattle.std.specs.{Prelude.{option_and_then, unwrap_or, IfSome, if◌then◌else◌}, List.AllByRecursion, Result.result_ok}
use Rattle.iso_time.specs.{Instant.IsReadable as IsReadableInstant, Laws.floor_millis}
use Rattle.mpd_tree.specs.Meaning.{reading_of}
use Rattle.mpd_levels.specs.Segments.{Segments}
use Rattle.mpd_rules.specs.Rules.{dash_values}
use Rattle.segment_forms.specs.declared.form.Form.{Form}
use Rattle.dash_writer.specs.{Live.{IsLive, first_time, live_text, part_of}, declared.live.LiveMpd.LiveMpd}
use Rattle.dash_writer.specs.{declared.live.LivePeriod.LivePeriod, declared.live.LiveRun.LiveRun, declared.live.LiveSegment.LiveSegment}
use Rattle.laws_of_mpds.specs.{Contents.IsOwnPart, Shown.{Shown, shown_of, shown_periods}, Texts.IsTellable, Told.{IsShort, segments_told}}

-- ---- its values

abbrev pub durations_in : LiveRun → List ℕ
durations_in run = map (λ (segment : LiveSegment). segment.duration) run.segments

-- The segments of a track in a Period, in the ticks of its run, with its media time at the Period's start: the time of the first one, then
-- each one's duration and file (ISO/IEC 23009-1, 5.3.9.3, 5.3.9.4 and 5.3.9.6).
abbrev pub live_told : Form → LiveRun → Segments
live_told form run = segments_told form run.scale (unwrap_or run.offset 0) (first_time run.segments) run.initialization (durations_in run)
    (map part_of run.segments)

abbrev pub told_in : Form → LiveMpd → (section place : ℕ) → Option Segments
told_in form mpd section place = option_and_then (λ (period : LivePeriod). option_map (live_told form) (slice_get period.runs place))
    (slice_get mpd.periods section)

-- a timestamp of a dynamic MPD, in whole milliseconds
abbrev pub until_ended : LiveMpd → ℤ → Option ℤ
until_ended mpd instant = if mpd.ended then None else Some (floor_millis instant)

-- It is dynamic until the presentation has ended. A Period has its section's number as its id.
abbrev pub live_shown : Form → LiveMpd → Shown
live_shown form mpd = record {
  dynamic = not mpd.ended;
  availability_start = until_ended mpd mpd.start;
  publish_time = until_ended mpd mpd.published;
  periods = shown_periods (λ place (period : LivePeriod). decimal period.number) (λ (period : LivePeriod). period.start) (told_in form mpd)
      mpd.tracks 0 mpd.periods;
}

-- ---- MPDs that are written and read back

-- files by URLs that resolve to themselves, and numbers of at most 64 digits
pub record IsReadableRun (run : LiveRun) : Type 0 where
  pub initialization : IsOwnPart run.initialization
  pub parts : AllByRecursion IsOwnPart (map part_of run.segments)
  pub some : 0 < run.scale
  pub scale : IsShort run.scale
  pub offset : IfSome run.offset IsShort
  pub durations : AllByRecursion IsShort (durations_in run)
  pub first : IsShort (first_time run.segments)
  pub few : IsShort (length run.segments)

-- less than 10^19 nanoseconds after the presentation's start
pub record IsReadablePeriod (period : LivePeriod) : Type 0 where
  pub start : period.start < 10 ^ 19
  pub runs : All IsReadableRun period.runs

pub record IsReadableMpd (mpd : LiveMpd) : Type 0 where
  pub live : IsLive mpd
  pub start : IsReadableInstant mpd.start
  pub published : IsReadableInstant mpd.published
  pub periods : All IsReadablePeriod mpd.periods
  pub tracks : All IsTellable mpd.tracks

-- The text is read back with the values of the MPD: until the presentation has ended, its start and the time of the text, and each
-- Period's id, start and segments. What is available at a time doesn't matter.
abbrev pub LiveTextsAreRead : Type 0
LiveTextsAreRead = (form : Form) (mpd : LiveMpd) → IsReadableMpd mpd
    → option_map (λ tree. shown_of (dash_values tree)) (result_ok (reading_of (live_text form mpd))) ≡ Some (live_shown form mpd)
