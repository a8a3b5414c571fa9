-- The presentation of a master playlist and its media playlists, or the first error.
use Rattle.std.specs.Prelude.{ℕ, ◌+◌, ◌/◌, ◌%◌, ◌^◌, ◌==◌, not, Bool, List, [], ◌∷◌, ◌++◌, length, map, decimal, if◌then◌else◌, Option}
use Rattle.std.specs.{Prelude.{Some, None, Result, Ok, Err}, List.{list_all, list_any}}
use Rattle.bridge_io.specs.Answer.{and_then}
use Rattle.exact_time.specs.Time.{in_units}
use Rattle.timeline.specs.{declared.fault.TimeFault.TimeFault, declared.fault.TimeFault.TheVariants.{ListLength, ZeroDuration}}
use Rattle.timeline.specs.{declared.fault.TimeFault.TheVariants.Memory as NoRoom, declared.names.Names.TheVariants.Addresses}
use Rattle.timeline.specs.{Expansions.{Closed, Extent, SegmentTimeline}, Faults.{are_paired, fault_if, lasts_no_time, or_fault}}
use Rattle.timeline.specs.{Faults.segment_fault, Limits.span_breaks_limits, SegmentTimelines.unless_fault}
use Rattle.url_parts.specs.declared.address.Part.{Part}
use Rattle.hls_media.specs.{declared.media.Media.Media, declared.media.MediaSegment.MediaSegment}
use Rattle.hls_master.specs.declared.track.MasterTrack.{MasterTrack}
use Rattle.presentation.specs.{declared.parts.Content.Content, declared.parts.Parts.Parts, declared.track.Track.Track}
use Rattle.presentation.specs.{declared.track.Section.Section, Presented.{Presented, of_parts}}
use Rattle.layer_faults.specs.declared.hls.HlsFault.{HlsFault}
use Rattle.layer_faults.specs.declared.hls.HlsFault.TheVariants.{NoMap, Limit, Memory}
use Rattle.hls_presentation.specs.{Tracks.{Source, sources, kept, left_out, track_faults}, Sections.{groups_in, row_length, rows_of}}
use Rattle.hls_presentation.specs.Sections.{whole_faults}

-- out of memory says nothing about playlists
abbrev pub refusal : HlsFault → Option HlsFault
refusal Memory = None
refusal fault = Some fault

-- ---- times

-- the nanoseconds of a tick: a microsecond where every duration is a whole number of them, otherwise a nanosecond
abbrev pub is_micros : MediaSegment → Bool
is_micros s = s.duration % 1000 == 0

abbrev pub are_micros : Source → Bool
are_micros s = list_all is_micros s.media.segments

abbrev pub nanos_by_tick : List Source → ℕ
nanos_by_tick tracks = if list_all are_micros tracks then 1000 else 1

abbrev pub ticks_by_second : ℕ → ℕ
ticks_by_second nanos = 10 ^ 9 / nanos

-- from one time to another, each in nanoseconds and rounded down to ticks
abbrev pub extent_at : (nanos start end : ℕ) → Extent
extent_at nanos start end = record {
  start = in_units (ticks_by_second nanos) (start / nanos);
  end = in_units (ticks_by_second nanos) (end / nanos);
}

-- each segment begins where the one before it ends, from the section's start on
abbrev pub extents_from : (nanos start : ℕ) → List MediaSegment → List Extent
extents_from nanos start [] = []
extents_from nanos start (s ∷ rest) = extent_at nanos start (start + s.duration) ∷ extents_from nanos (start + s.duration) rest

-- ---- the content of a track in a section

abbrev pub part_of : MediaSegment → Part
part_of s = record { address = s.address; range = s.range }

abbrev pub parts_of : List MediaSegment → List Part
parts_of group = map part_of group

-- the map of the first segment
abbrev pub initialization_in : Option Part → Result Part HlsFault
initialization_in (Some part) = Ok part
initialization_in None = Err NoMap

abbrev pub initialization_of : List MediaSegment → Result Part HlsFault
initialization_of [] = Err NoMap
initialization_of (s ∷ rest) = initialization_in s.map

-- times that aren't a valid timeline are beyond a limit
abbrev pub fault_of_times : TimeFault → HlsFault
fault_of_times NoRoom = Memory
fault_of_times fault = Limit

abbrev pub timed : {X : Type 0} → Result X TimeFault → Result X HlsFault
timed (Ok x) = Ok x
timed (Err fault) = Err Limit

-- segments with these times and files, numbered from 1
abbrev pub timeline_with : (ticks : ℕ) → List Part → List Extent → SegmentTimeline
timeline_with ticks parts xs = record {
  members = map Closed xs;
  ticks = ticks;
  origin = 0;
  offset = 0;
  first_number = 1;
  names = Addresses parts;
}

abbrev pub fault_of_extents : List Part → List Extent → Option TimeFault
fault_of_extents parts xs = or_fault (fault_if (list_any lasts_no_time xs) ZeroDuration)
    (or_fault (segment_fault span_breaks_limits None (map Closed xs))
    (fault_if (not (are_paired (Some (length parts)) (map Closed xs))) ListLength))

abbrev pub timeline_of_extents : (ticks : ℕ) → List Part → List Extent → Result SegmentTimeline TimeFault
timeline_of_extents ticks parts xs = unless_fault (fault_of_extents parts xs) (timeline_with ticks parts xs)

abbrev pub runs_of : ℕ → List MediaSegment → Result SegmentTimeline HlsFault
runs_of nanos group = timed (timeline_of_extents (ticks_by_second nanos) (parts_of group) (extents_from nanos 0 group))

abbrev pub content_with : Part → SegmentTimeline → Content
content_with initialization runs = record { initialization = initialization; runs = runs }

abbrev pub content_of : ℕ → List MediaSegment → Result Content HlsFault
content_of nanos group = and_then (initialization_of group) (λ initialization. and_then (runs_of nanos group)
    (λ runs. Ok (content_with initialization runs)))

-- what each member of a list gives, in order, or the first error
abbrev pub gathered : {X Y : Type 0} → (X → Result Y HlsFault) → List X → Result (List Y) HlsFault
gathered give [] = Ok []
gathered give (x ∷ xs) = and_then (give x) (λ y. and_then (gathered give xs) (λ ys. Ok (y ∷ ys)))

-- the same, appended to a list
abbrev pub behind : {Y : Type 0} → List Y → Result (List Y) HlsFault → Result (List Y) HlsFault
behind before gathered = and_then gathered (λ ys. Ok (before ++ ys))

-- by section, then by track
abbrev pub flattened : {X : Type 0} → List (List X) → List X
flattened [] = []
flattened (xs ∷ rows) = xs ++ flattened rows

abbrev pub contents_of : ℕ → List (List (List MediaSegment)) → Result (List Content) HlsFault
contents_of nanos rows = gathered (content_of nanos) (flattened rows)

-- ---- tracks and sections

-- a master playlist's track as that of a presentation
abbrev pub track_from : MasterTrack → Track
track_from track = record {
  kind = track.kind;
  set = track.set;
  language = track.language;
  codecs = track.codecs;
  bandwidth = track.bandwidth;
  size = track.size;
  frame_rate = track.frame_rate;
}

abbrev pub track_of : Source → Track
track_of s = track_from s.track

-- each section begins where the one before it ends; its id is its index
abbrev pub section_at : (place start length : ℕ) → Section
section_at place start length = record { id = decimal place; start = start; length = Some length }

abbrev pub sections_from : (place start : ℕ) → List (List (List MediaSegment)) → List Section
sections_from place start [] = []
sections_from place start (row ∷ rows) = section_at place start (row_length row) ∷ sections_from (place + 1) (start + row_length row) rows

abbrev pub parts_with : List Source → (left_out : ℕ) → List (List (List MediaSegment)) → List Content → Parts
parts_with tracks others rows contents = record {
  tracks = map track_of tracks;
  sections = sections_from 0 0 rows;
  contents = contents;
  left_out = others;
}

unfoldable pub presented_from : List Source → (left_out : ℕ) → List (List (List MediaSegment)) → Result Presented HlsFault
presented_from tracks others rows = and_then (contents_of (nanos_by_tick tracks) rows)
    (λ contents. Ok (of_parts (parts_with tracks others rows contents)))

-- the first of some faults, otherwise a result
abbrev pub unless_any : {X : Type 0} → List HlsFault → Result X HlsFault → Result X HlsFault
unless_any [] next = next
unless_any (fault ∷ faults) next = Err fault

unfoldable pub presented_of_kept : List Source → (left_out : ℕ) → Result Presented HlsFault
presented_of_kept tracks others = let groups = map groups_in tracks in
    unless_any (whole_faults groups) (presented_from tracks others (rows_of groups))

-- The presentation of a master playlist's tracks with one media playlist each, or the first error.
unfoldable pub hls_presented_of : List MasterTrack → List Media → Result Presented HlsFault
hls_presented_of tracks medias = let all = sources tracks medias in
    unless_any (track_faults all) (presented_of_kept (kept all) (left_out all))

-- all errors, in order
abbrev pub faults_in : List MasterTrack → List Media → List HlsFault
faults_in tracks medias = let all = sources tracks medias in track_faults all ++ whole_faults (map groups_in (kept all))
