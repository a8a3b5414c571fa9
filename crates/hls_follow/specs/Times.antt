-- Times of segments over the reloads of a live playlist (RFC 8216, 6.2.1 and 6.2.2).
use Rattle.std.specs.Prelude.{ℕ, ◌+◌, ◌-◌, ◌*◌, ◌^◌, ◌==◌, nat_le, nat_lt, Bool, List, [], ◌∷◌, length, slice_get, if◌then◌else◌, unwrap_or}
use Rattle.std.specs.{Prelude.{Option, Some, None, Result, Ok, Err}, List.list_any}
use Rattle.bridge_io.specs.Answer.{and_then}
use Rattle.hls_media.specs.{declared.media.Media.Media, declared.media.MediaSegment.MediaSegment}
use Rattle.reload_law.specs.Rules.{end_of}
use Rattle.hls_presentation.specs.Tracks.{Source}
use Rattle.layer_faults.specs.declared.live.LiveFault.{LiveFault}
use Rattle.layer_faults.specs.declared.live.LiveFault.TheVariants.{Limit}
use Rattle.hls_follow.specs.{declared.state.FollowedTrack.FollowedTrack, declared.state.Last.Last}

-- a segment of a playlist with its time
pub record TimedSegment : Type 0 where
  pub segment : MediaSegment
  pub time : ℕ

-- the last member of a list
abbrev pub last_in : {X : Type 0} → List X → Option X
last_in xs = slice_get xs (length xs - 1)

-- the time of a sequence number in the previous snapshot
abbrev pub former_time : Option FollowedTrack → (number : ℕ) → Option ℕ
former_time None number = None
former_time (Some former) number = if nat_lt number former.media.sequence then None else slice_get former.times
    (number - former.media.sequence)

-- the last segment before new ones: the sequence number after its own, its section, and its start there
abbrev pub last_at : (next : ℕ) → Option MediaSegment → Option ℕ → Option Last
last_at next (Some s) (Some time) = Some (record { next = next; section = s.section; time = time; duration = s.duration })
last_at next (Some s) None = None
last_at next None time = None

-- the last segment of the previous snapshot
abbrev pub last_of : Option FollowedTrack → Option Last
last_of None = None
last_of (Some former) = last_at (end_of former.media) (last_in former.media.segments) (last_in former.times)

-- A new segment begins where the one before it ends, after the sequence numbers that were missed, each of which lasts a target
-- duration. No section comes back, so a section other than that segment's is a new one and begins with it.
abbrev pub new_time : (target number section : ℕ) → Option Last → ℕ
new_time target number section None = 0
new_time target number section (Some last) =
    if last.section == section then last.time + last.duration + (number - last.next) * (target * 10 ^ 9) else 0

abbrev pub behind_segment : (number time : ℕ) → MediaSegment → Last
behind_segment number time s = record { next = number + 1; section = s.section; time = time; duration = s.duration }

-- a sequence number keeps its time
abbrev pub time_of : Option FollowedTrack → (target number section : ℕ) → Option Last → ℕ
time_of former target number section last = unwrap_or (former_time former number) (new_time target number section last)

-- the times of segments, given the sequence number of the first one
abbrev pub timed_from : Option FollowedTrack → (target number : ℕ) → Option Last → List MediaSegment → List TimedSegment
timed_from former target number last [] = []
timed_from former target number last (s ∷ segments) =
    let time = time_of former target number s.section last in
    record { segment = s; time = time } ∷ timed_from former target (number + 1) (Some (behind_segment number time s)) segments

-- A playlist's segments with their times, relative to their sections' starts.
unfoldable pub timed_of : Option FollowedTrack → Media → List TimedSegment
timed_of former media = timed_from former media.target media.sequence (last_of former) media.segments

-- when a segment ends
abbrev pub timed_end : TimedSegment → ℕ
timed_end t = t.time + t.segment.duration

-- it ends at 2^63 nanoseconds or later
abbrev pub is_late : TimedSegment → Bool
is_late t = nat_le (2 ^ 63) (timed_end t)

-- a segment with its time, unless it is late
abbrev pub timed_within : MediaSegment → (time : ℕ) → Result TimedSegment LiveFault
timed_within s time = if nat_le (2 ^ 63) (time + s.duration) then Err Limit else Ok (record { segment = s; time = time })

abbrev pub unless_late : List TimedSegment → Result (List TimedSegment) LiveFault
unless_late timed = if list_any is_late timed then Err Limit else Ok timed

-- the kept tracks' segments, from an index on, given each track's last playlist
abbrev pub timed_all : List FollowedTrack → (place : ℕ) → List Source → Result (List (List TimedSegment)) LiveFault
timed_all formers place [] = Ok []
timed_all formers place (s ∷ kept) = and_then (unless_late (timed_of (slice_get formers place) s.media))
    (λ timed. and_then (timed_all formers (place + 1) kept) (λ others. Ok (timed ∷ others)))
