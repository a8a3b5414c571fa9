-- The MPD of a live presentation (ISO/IEC 23009-1, 5.3).
use Rattle.std.specs.Prelude.{◌≡◌, ℕ, ◌+◌, ◌-◌, ◌^◌, min, List, [], ◌∷◌, length, map, slice_get, codes, decimal, All, Option, Some, None}
use Rattle.std.specs.Prelude.{option_map, option_and_then, option_to_list, if◌then◌else◌}
use Rattle.iso_time.specs.{Civil.instant_text, Duration.duration_text, Instant.IsWritable}
use Rattle.url_parts.specs.declared.address.Part.{Part}
use Rattle.dash_writer.specs.{declared.live.LiveMpd.LiveMpd, declared.live.LivePeriod.LivePeriod, declared.live.LiveRun.LiveRun}
use Rattle.dash_writer.specs.{declared.live.LiveSegment.LiveSegment, Elements.{Attribute, Element}, Forms.segments_with, Manifest.finished_root}
use Rattle.segment_forms.specs.declared.form.Form.{Form}
use Rattle.dash_writer.specs.{Outline.{Outline, heads_from, outline_text}, Values.seconds_text}

-- ---- the root

-- of a dynamic MPD: availabilityStartTime, the time of this text, and after how long there may be another one
abbrev pub growing_root : (start published : List ℕ) (target : ℕ) → List Attribute
growing_root start published target =
    (codes "xmlns", Some (codes "urn:mpeg:dash:schema:mpd:2011"))
    ∷ (codes "profiles", Some (codes "urn:mpeg:dash:profile:full:2011"))
    ∷ (codes "type", Some (codes "dynamic"))
    ∷ (codes "availabilityStartTime", Some start)
    ∷ (codes "publishTime", Some published)
    ∷ (codes "minimumUpdatePeriod", Some (seconds_text target))
    ∷ (codes "minBufferTime", Some (codes "PT2S"))
    ∷ []

-- when a Period ends, in nanoseconds; fewer than 10^19 can be written
abbrev pub live_end : LivePeriod → ℕ
live_end period = min (10 ^ 19 - 1) (period.start + period.longest)

-- when the last one does
abbrev pub last_live_end : List LivePeriod → Option ℕ
last_live_end periods = option_map live_end (slice_get periods (length periods - 1))

abbrev pub live_root : LiveMpd → List Attribute
live_root mpd =
    if mpd.ended then finished_root (last_live_end mpd.periods)
    else growing_root (instant_text mpd.start) (instant_text mpd.published) mpd.target

-- ---- Periods, and the contents of tracks in them

-- its id is its section's number; it has no duration, also where the presentation has ended
abbrev pub live_period : (place : ℕ) → LivePeriod → List Attribute
live_period place period =
    (codes "id", Some (decimal period.number)) ∷ (codes "start", Some (duration_text period.start)) ∷ (codes "duration", None) ∷ []

-- when the first segment begins
abbrev pub first_time : List LiveSegment → ℕ
first_time [] = 0
first_time (segment ∷ segments) = segment.time

-- the file of a segment, or a byte range of it
abbrev pub part_of : LiveSegment → Part
part_of segment = record { address = segment.address; range = segment.range }

-- in the ticks of the run
abbrev pub live_list : Form → LiveRun → Element
live_list form run = segments_with form run.scale run.offset (first_time run.segments) run.initialization
    (map (λ (segment : LiveSegment). segment.duration) run.segments) (map part_of run.segments)

abbrev pub live_lists : Form → LiveMpd → (section place : ℕ) → List Element
live_lists form mpd section place = option_to_list (option_and_then
    (λ (period : LivePeriod). option_map (live_list form) (slice_get period.runs place))
    (slice_get mpd.periods section))

-- ---- the whole

abbrev pub live_outline : Form → LiveMpd → Outline
live_outline form mpd = record {
  root = live_root mpd;
  periods = heads_from live_period 0 mpd.periods;
  tracks = mpd.tracks;
  lists =
      live_lists form mpd;
}

unfoldable pub live_text : Form → LiveMpd → List ℕ
live_text form mpd = outline_text (live_outline form mpd)

-- the years of its timestamps are 1000 to 9999, and each track has a run in each Period
pub record IsLive (mpd : LiveMpd) : Type 0 where
  pub start : IsWritable mpd.start
  pub published : IsWritable mpd.published
  pub filled : All (λ (period : LivePeriod). length period.runs ≡ length mpd.tracks) mpd.periods

-- a track has a run in a Period, by the two indices
abbrev pub HasRun : LiveMpd → (section place : ℕ) → Type 0
HasRun mpd section place = (period : LivePeriod) × (run : LiveRun) × (slice_get mpd.periods section
    ≡ Some period) × (slice_get period.runs place ≡ Some run)
