-- What a snapshot reads of media files: no more bytes than a limit, up to the ends of the boxes that contain timescales and times.
use Rattle.layer_faults.specs.declared.live.LiveFault.TheVariants as live
use Rattle.std.specs.Prelude.{ℕ, ◌+◌, ◌-◌, nat_lt, codes, List, [], ◌∷◌, ◌++◌, Option, Some, None, if◌then◌else◌, Result, Ok, Err}
use Rattle.bridge_io.specs.{Answer.and_then, Outside.Files}
use Rattle.hls_media.specs.declared.media.MediaSegment.{MediaSegment}
use Rattle.dash_writer.specs.{declared.live.LivePeriod.LivePeriod, declared.live.LiveRun.LiveRun}
use Rattle.fragment_times.specs.{declared.times.SegmentTimes.SegmentTimes, Parts.{end_at, scale_at}}
use Rattle.hls_follow.specs.{declared.reading.Read.Read, declared.timed_fault.TimedFault.TimedFault}
use Rattle.hls_follow.specs.declared.timed_fault.TimedFault.TheVariants.{Live}
use Rattle.hls_follow.specs.{OwnTimes.{Snapshot, map_of, new_start, of_live, of_times, part_of, period_in, run_at}}
use Rattle.hls_follow.specs.Stretches.{Stretch, new_in, stretch_at}

-- how many bytes of all files together
abbrev pub most_bytes : ℕ
most_bytes = 536870912

-- what is read where so many more bytes may be
abbrev pub Reads : Type 0 → Type 0
Reads X = (left : ℕ) → Result (Read X) TimedFault

abbrev pub known : {X : Type 0} → X → Reads X
known x left = Ok (record { value = x; left = left })

-- what a box states that ends after so many bytes of its part
abbrev pub charged : {X : Type 0} → (bytes : ℕ) → X → Reads X
charged bytes x left = if nat_lt left bytes then Err (Live live.Limit) else Ok (record { value = x; left = left - bytes })

abbrev pub charged_by : {X : Type 0} → (bytes : ℕ) → Result X TimedFault → Reads X
charged_by bytes told left = and_then told (λ x. charged bytes x left)

-- ---- one thing after another

abbrev pub joined : {X Y Z : Type 0} → (X → Y → Z) → Reads X → Reads Y → Reads Z
joined give one other left =
    and_then (one left) (λ first.
    and_then (other first.left) (λ later. Ok (record { value = give first.value later.value; left = later.left })))

abbrev pub and_others : {X : Type 0} → Reads X → Reads (List X) → Reads (List X)
and_others one others = joined (λ x xs. x ∷ xs) one others

-- what was read before, and then more
abbrev pub after : {X : Type 0} → Read (List X) → Reads (List X) → Result (Read (List X)) TimedFault
after former more = and_then (more former.left) (λ later. Ok (record { value = former.value ++ later.value; left = later.left }))

-- ---- a track in a section: first the init segment, then the segments in order

abbrev pub read_map : (folder : List ℕ) → Files → List MediaSegment → Reads ℕ
read_map folder files segments left =
    and_then (of_live (map_of segments)) (λ map.
    charged_by (end_at (codes "moov") folder files map) (of_times (scale_at folder files map)) left)

abbrev pub read_scale : (folder : List ℕ) → Files → Option LiveRun → Stretch → Reads ℕ
read_scale folder files (Some run) s = known run.scale
read_scale folder files None s = read_map folder files s.segments

abbrev pub read_start : (folder : List ℕ) → Files → MediaSegment → Reads ℕ
read_start folder files s = charged_by (end_at (codes "moof") folder files (part_of s)) (new_start folder files s)

abbrev pub read_new : (folder : List ℕ) → Files → List MediaSegment → Reads (List ℕ)
read_new folder files [] = known []
read_new folder files (s ∷ segments) = and_others (read_start folder files s) (read_new folder files segments)

abbrev pub read_starts : (folder : List ℕ) → Files → Stretch → Reads (List ℕ)
read_starts folder files s left = after (record { value = s.known; left = left }) (read_new folder files (new_in s))

abbrev pub times_with : (scale : ℕ) → (starts : List ℕ) → SegmentTimes
times_with scale starts = record { scale = scale; starts = starts }

abbrev pub read_track : (folder : List ℕ) → Files → Option LiveRun → Stretch → Reads SegmentTimes
read_track folder files run s = joined times_with (read_scale folder files run s) (read_starts folder files s)

-- ---- section by section, track by track

-- the tracks in the section at an index, from a track on
abbrev pub read_row : (folder : List ℕ) → Files → Option LivePeriod → (place track : ℕ) → List (List Stretch)
    → Reads (List SegmentTimes)
read_row folder files period place track [] = known []
read_row folder files period place track (own ∷ tracks) =
    and_others (read_track folder files (run_at period track) (stretch_at place own))
    (read_row folder files period place (track + 1) tracks)

abbrev pub read_section : Snapshot → Files → Option LivePeriod → (place : ℕ) → Reads (List SegmentTimes)
read_section s files period place = read_row s.folder files period place 0 s.tracks

-- the sections from an index on
abbrev pub read_from : Snapshot → Files → (place : ℕ) → List ℕ → Reads (List SegmentTimes)
read_from s files place [] = known []
read_from s files place (number ∷ sections) =
    joined (λ xs ys. xs ++ ys) (read_section s files (period_in number s.periods) place) (read_from s files (place + 1) sections)

-- The times of all segments, or the first error: that of a file, or `Limit` at the file with which more bytes come than may.
abbrev pub read_times : Snapshot → Files → Result (List SegmentTimes) TimedFault
read_times s files = and_then (read_from s files 0 s.sections most_bytes) (λ read. Ok read.value)
