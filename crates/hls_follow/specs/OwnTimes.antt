-- The times of a snapshot's segments, by their files (ISO/IEC 14496-12, 8.4.2 and 8.8.12).
use Rattle.layer_faults.specs.declared.live.LiveFault.TheVariants as live
use Rattle.fragment_times.specs.declared.fault.TimesFault.TheVariants as times
use Rattle.std.specs.Prelude.{ℕ, ◌+◌, ◌==◌, List, [], ◌∷◌, ◌++◌, map, slice_get, Option, Some, None, option_and_then}
use Rattle.std.specs.Prelude.{if◌then◌else◌, Result, Ok, Err, IsErrOf}
use Rattle.bridge_io.specs.{Answer.{and_then, gathered, told_as}, Outside.Files}
use Rattle.url_parts.specs.declared.address.Part.{Part}
use Rattle.hls_media.specs.declared.media.MediaSegment.{MediaSegment}
use Rattle.dash_writer.specs.{declared.live.LivePeriod.LivePeriod, declared.live.LiveRun.LiveRun}
use Rattle.fragment_times.specs.{declared.fault.TimesFault.TimesFault, declared.times.SegmentTimes.SegmentTimes, Parts.{scale_at, start_at}}
use Rattle.layer_faults.specs.declared.live.LiveFault.{LiveFault}
use Rattle.hls_follow.specs.{declared.snapshot.Snapshot.Snapshot as Given, declared.state.FollowedTrack.FollowedTrack}
use Rattle.hls_follow.specs.{declared.timed_fault.TimedFault.TimedFault, declared.timed_fault.TimedFault.TheVariants.{Live, Times}}
use Rattle.hls_follow.specs.Stretches.{Stretch, new_in, stretch_at}

-- ---- errors

-- out of memory and an I/O error say nothing about playlists and files
abbrev pub timed_told : TimedFault → Option TimedFault
timed_told (Live live.Memory) = None
timed_told (Times times.Memory) = None
timed_told (Times times.Fault) = None
timed_told fault = Some fault

-- a read failed
abbrev pub unread : TimedFault
unread = Times times.Fault

-- none did
abbrev pub IsNoFault : {X : Type 0} → Result X TimedFault → Type 0
IsNoFault result = IsErrOf result unread → ⊥

abbrev pub of_live : {X : Type 0} → Result X LiveFault → Result X TimedFault
of_live told = told_as Live told

abbrev pub of_times : {X : Type 0} → Result X TimesFault → Result X TimedFault
of_times told = told_as Times told

-- ---- one thing after another

abbrev pub alone : {X : Type 0} → Result X TimedFault → Result (List X) TimedFault
alone told = and_then told (λ x. Ok (x ∷ []))

-- what each member of a list gives, in order, or the first error
abbrev pub each : {X Y : Type 0} → (X → Result Y TimedFault) → List X → Result (List Y) TimedFault
each give xs = gathered (λ x. alone (give x)) xs

-- the same, appended to a list
abbrev pub behind : {X : Type 0} → (former : List X) → Result (List X) TimedFault → Result (List X) TimedFault
behind former told = and_then told (λ later. Ok (former ++ later))

-- ---- what is known of a snapshot

-- A checked snapshot: the kept tracks and the Periods after the last accepted one, its section numbers, its segments by track and
-- section, and the URL of the store's folder.
pub record Snapshot : Type 0 where
  pub formers : List FollowedTrack
  pub periods : List LivePeriod
  pub sections : List ℕ
  pub tracks : List (List Stretch)
  pub folder : List ℕ

abbrev pub snapshot_of : Given → Snapshot
snapshot_of s = record {
  formers = s.formers.now;
  periods = s.periods.now;
  sections = s.sections.now;
  tracks = s.tracks.now;
  folder = s.folder.now;
}

-- the Period of a section, where the last accepted snapshot had it
abbrev pub period_in : (number : ℕ) → List LivePeriod → Option LivePeriod
period_in number [] = None
period_in number (p ∷ periods) = if p.number == number then Some p else period_in number periods

-- and the track at an index in it
abbrev pub run_at : Option LivePeriod → (track : ℕ) → Option LiveRun
run_at known track = option_and_then (λ (p : LivePeriod). slice_get p.runs track) known

-- ---- a track in a section: first the init segment, then the segments in order

-- the map of the first segment, which every segment has
abbrev pub map_in : Option Part → Result Part LiveFault
map_in (Some map) = Ok map
map_in None = Err live.NoMap

abbrev pub map_of : List MediaSegment → Result Part LiveFault
map_of [] = Err live.NoMap
map_of (s ∷ segments) = map_in s.map

-- A section keeps its timescale; that of one that begins is its init segment's.
abbrev pub scale_of : (folder : List ℕ) → Files → Option LiveRun → Stretch → Result ℕ TimedFault
scale_of folder files (Some run) s = Ok run.scale
scale_of folder files None s = and_then (of_live (map_of s.segments)) (λ map. of_times (scale_at folder files map))

abbrev pub part_of : MediaSegment → Part
part_of s = record { address = s.address; range = s.range }

abbrev pub new_start : (folder : List ℕ) → Files → MediaSegment → Result ℕ TimedFault
new_start folder files s = of_times (start_at folder files (part_of s))

-- A segment that the last accepted snapshot listed keeps its time; another's is the decode time of its own file.
abbrev pub starts_of : (folder : List ℕ) → Files → Stretch → Result (List ℕ) TimedFault
starts_of folder files s = behind s.known (each (new_start folder files) (new_in s))

abbrev pub track_times : (folder : List ℕ) → Files → Option LiveRun → Stretch → Result SegmentTimes TimedFault
track_times folder files known s =
    and_then (scale_of folder files known s) (λ scale.
    and_then (starts_of folder files s) (λ starts. Ok (record { scale = scale; starts = starts })))

-- ---- section by section, track by track

-- the tracks in the section at an index, from a track on
abbrev pub row_times : (folder : List ℕ) → Files → Option LivePeriod → (place track : ℕ) → List (List Stretch)
    → Result (List SegmentTimes) TimedFault
row_times folder files known place track [] = Ok []
row_times folder files known place track (own ∷ tracks) =
    and_then (track_times folder files (run_at known track) (stretch_at place own)) (λ times.
    and_then (row_times folder files known place (track + 1) tracks) (λ others. Ok (times ∷ others)))

abbrev pub section_times : Snapshot → Files → Option LivePeriod → (place : ℕ) → Result (List SegmentTimes) TimedFault
section_times s files known place = row_times s.folder files known place 0 s.tracks

-- the sections from an index on
abbrev pub times_from : Snapshot → Files → (place : ℕ) → List ℕ → Result (List SegmentTimes) TimedFault
times_from s files place [] = Ok []
times_from s files place (number ∷ sections) =
    and_then (section_times s files (period_in number s.periods) place) (λ times.
    and_then (times_from s files (place + 1) sections) (λ others. Ok (times ++ others)))

-- the times of all segments, or the first error of a file
abbrev pub times_of : Snapshot → Files → Result (List SegmentTimes) TimedFault
times_of s files = times_from s files 0 s.sections
