-- The durations of a snapshot's segments, by the times of their files.
use Rattle.fragment_times.specs.declared.fault.TimesFault.TheVariants as times
use Rattle.layer_faults.specs.declared.times.FileFault.TheVariants as file
use Rattle.std.specs.Prelude.{ℕ, ◌+◌, ◌^◌, ◌<◌, ◌≤◌, ◌==◌, ◌&&◌, ◌||◌, nat_le, nat_lt, Bool, false, List, [], ◌∷◌, ◌++◌, drop, get_or}
use Rattle.std.specs.Prelude.{length, slice_get, sum, take, All, if◌then◌else◌, Option, Some, None, Result, Ok, Err, unwrap_or}
use Rattle.bridge_io.specs.Answer.{and_then, told_as}
use Rattle.url_parts.specs.Addresses.{local_name_of}
use Rattle.hls_media.specs.{Laws.IsBoundedSegment, declared.media.MediaSegment.MediaSegment}
use Rattle.dash_writer.specs.{declared.live.LiveRun.LiveRun, declared.timed.TickRun.TickRun}
use Rattle.segment_forms.specs.declared.form.Form.TheVariants.{Players}
use Rattle.fragment_times.specs.{declared.fault.SegmentSpot.SegmentSpot, declared.fault.TimesFault.TimesFault}
use Rattle.fragment_times.specs.declared.lasting.Clock.{Clock}
use Rattle.fragment_times.specs.{declared.origin.Origin.Origin, declared.times.SegmentTimes.SegmentTimes}
use Rattle.fragment_times.specs.Durations.{nearest_ticks, ticks_of}
use Rattle.fragment_times.specs.Origins.{first_of, offset_in, origin_of}
use Rattle.layer_faults.specs.declared.times.FileFault.{FileFault}
use Rattle.hls_follow.specs.{declared.state.Last.Last, declared.timed_fault.TimedFault.TimedFault}
use Rattle.hls_follow.specs.{declared.timed_fault.TimedFault.TheVariants.Times, OwnTimes.{Snapshot, period_in, run_at}}
use Rattle.hls_follow.specs.{Stretches.{Stretch, stretch_at}, Times.{last_in, last_of}}

-- ---- the segments of a snapshot

-- each is as those of playlists that were read
abbrev pub IsBoundedStretch : Stretch → Type 0
IsBoundedStretch s = All IsBoundedSegment s.segments

abbrev pub HasBounded : Snapshot → Type 0
HasBounded s = All (All IsBoundedStretch) s.tracks

-- ---- the spot of a segment

-- a section and a track of the snapshot
pub record IsSpot (s : Snapshot) (at : SegmentSpot) : Type 0 where
  pub section : at.section < length s.sections
  pub track : at.track < length s.tracks

abbrev pub stretch_in : Snapshot → SegmentSpot → Stretch
stretch_in s at = stretch_at at.section (unwrap_or (slice_get s.tracks at.track) [])

abbrev pub file_told : Option (List ℕ) → FileFault → TimedFault
file_told None fault = Times times.OutsideBase
file_told (Some file) fault = Times (times.File file fault)

abbrev pub segment_told : (folder : List ℕ) → Option MediaSegment → FileFault → TimedFault
segment_told folder None fault = Times times.OutsideBase
segment_told folder (Some s) fault = file_told (local_name_of folder s.address) fault

-- an error of a segment names its file
abbrev pub fault_at : Snapshot → SegmentSpot → FileFault → TimedFault
fault_at s at fault = segment_told s.folder (slice_get (stretch_in s at).segments at.segment) fault

abbrev pub told_at : Snapshot → TimesFault → TimedFault
told_at s (times.Segment at fault) = fault_at s at fault
told_at s fault = Times fault

-- the spot in an error, where it has one
abbrev pub IsFaultOf : Snapshot → TimesFault → Type 0
IsFaultOf s (times.Segment at fault) = IsSpot s at
IsFaultOf s other = Unit {0}

-- ---- a track in a section

-- A section keeps the offset with which it began: its origin then, in the track's ticks.
abbrev pub offset_of : Option LiveRun → Origin → SegmentTimes → ℕ
offset_of (Some run) origin times = unwrap_or run.offset 0
offset_of None origin times = offset_in origin times.scale

-- the last segment lasts as long as in its playlist, to the nearest tick, halves up, and at least one
abbrev pub ticks_in : Option MediaSegment → (scale : ℕ) → ℕ
ticks_in None scale = 1
ticks_in (Some s) scale = nearest_ticks scale s.duration

abbrev pub last_ticks : List MediaSegment → (scale : ℕ) → ℕ
last_ticks segments scale = ticks_in (last_in segments) scale

-- The first segment is new, and doesn't begin after the last one that the last accepted snapshot listed in the section: no later
-- section than its last one was known, so that is its very last segment.
abbrev pub is_not_after : Option Last → (section first : ℕ) → Bool
is_not_after None section first = false
is_not_after (Some last) section first = last.section == section && nat_le first last.time

abbrev pub is_back_behind : (known : List ℕ) → Option Last → (section first : ℕ) → Bool
is_back_behind [] last section first = is_not_after last section first
is_back_behind (time ∷ known) last section first = false

abbrev pub is_back : Snapshot → SegmentSpot → SegmentTimes → Bool
is_back s at times =
    is_back_behind (stretch_in s at).known (last_of (slice_get s.formers at.track)) (get_or s.sections at.section 0) (first_of times)

-- The first segment begins before the section. The case never comes: an offset isn't after the times with which its section began.
abbrev pub is_before : (offset : ℕ) → SegmentTimes → Bool
is_before offset times = nat_lt (first_of times) offset

abbrev pub is_out_of_order : Snapshot → SegmentSpot → (offset : ℕ) → SegmentTimes → Bool
is_out_of_order s at offset times = is_back s at times || is_before offset times

abbrev pub clock_with : (scale offset : ℕ) → Clock
clock_with scale offset = record { form = Players; scale = scale; offset = offset }

abbrev pub run_with : (offset : ℕ) → SegmentTimes → (durations : List ℕ) → TickRun
run_with offset times durations = record { scale = times.scale; offset = offset; first = first_of times; durations = durations }

-- at least one tick per second, a first segment that doesn't begin before the section, and an end below 2^63 ticks
pub record IsWhole (run : TickRun) : Type 0 where
  pub scale : 0 < run.scale
  pub begins : run.offset ≤ run.first
  pub end : run.first + sum run.durations < 2 ^ 63

-- Each segment lasts until the next one of this list in its section; a difference has its limit only within this list.
abbrev pub followed_run : Snapshot → SegmentSpot → (offset : ℕ) → SegmentTimes → Result TickRun TimedFault
followed_run s at offset times = and_then
    (told_as (told_at s) (ticks_of at (clock_with times.scale offset) (last_ticks (stretch_in s at).segments times.scale) times.starts))
    (λ durations. Ok (run_with offset times durations))

abbrev pub track_run : Snapshot → SegmentSpot → (offset : ℕ) → SegmentTimes → Result TickRun TimedFault
track_run s at offset times =
    if is_out_of_order s at offset times then Err (fault_at s at file.Order) else followed_run s at offset times

-- ---- section by section, track by track

abbrev pub spot_of : (place track : ℕ) → SegmentSpot
spot_of place track = record { section = place; track = track; segment = 0 }

-- the tracks in the section at an index, from a track on
abbrev pub row_runs : Snapshot → (place track : ℕ) → Origin → List SegmentTimes → Result (List TickRun) TimedFault
row_runs s place track origin [] = Ok []
row_runs s place track origin (times ∷ row) =
    let known = run_at (period_in (get_or s.sections place 0) s.periods) track in
    and_then (track_run s (spot_of place track) (offset_of known origin times) times) (λ run.
    and_then (row_runs s place (track + 1) origin row) (λ others. Ok (run ∷ others)))

-- a section that begins has one origin for all its tracks
abbrev pub section_runs : Snapshot → (place : ℕ) → List SegmentTimes → Result (List TickRun) TimedFault
section_runs s place row = row_runs s place 0 (origin_of row) row

-- the sections from an index on
abbrev pub runs_from : Snapshot → (place : ℕ) → List ℕ → List SegmentTimes → Result (List TickRun) TimedFault
runs_from s place [] times = Ok []
runs_from s place (number ∷ sections) times =
    and_then (section_runs s place (take (length s.tracks) times)) (λ runs.
    and_then (runs_from s (place + 1) sections (drop (length s.tracks) times)) (λ others. Ok (runs ++ others)))

-- all segments in ticks, or the first one that doesn't follow
abbrev pub runs_of : Snapshot → List SegmentTimes → Result (List TickRun) TimedFault
runs_of s times = runs_from s 0 s.sections times
