-- The segments of a Representation in one Period, written out one by one.
use Rattle.std.specs.{Prelude.{ℕ, zero, suc, ◌+◌, ◌+ℤ◌, ◌-ℤ◌, Bool, true, false, List, [], ◌∷◌, flat_map, if◌then◌else◌}, List.list_any}
use Rattle.exact_time.specs.Time.{Time, difference, before}
use Rattle.timeline.specs.{Ratios.steps_within, declared.names.Names.Names}

-- where a segment begins and ends, from the Period's start
pub record Extent : Type 0 where
  pub start : Time
  pub end : Time

-- how long it lasts
abbrev pub lasting : Extent → Time
lasting x = difference x.end x.start

-- the segment that follows another, as long as it, in ticks of one scale
abbrev pub repeat_of : Extent → Extent
repeat_of x = record {
  start = x.end;
  end = record { ticks = x.end.ticks +ℤ (x.end.ticks -ℤ x.start.ticks); scale = x.end.scale };
}

-- a number of segments, each as long as the first one and beginning where the one before it ends
unfoldable pub repeated : ℕ → Extent → List Extent
repeated zero x = []
repeated (suc count) x = x ∷ repeated count (repeat_of x)

-- What the S elements of a timeline, or a duration, give.
pub data Member : Type 0 where
  -- a segment
  Closed : Extent → Member
  -- the first segment, as it is written, of an S whose segments continue to a time that isn't after their start, or to no
  -- time
  Short : Extent → Member
  -- the first one of the segments that continue to the end of an open Period
  Endless : Extent → Member

-- how many of these segments end at or before a time
abbrev pub ended_by : Time → Extent → ℕ
ended_by instant x = if before instant x.end then 0 else steps_within (difference instant x.start) (lasting x)

-- the segments of a member: with an open end those that end by the time
abbrev pub extents_at : Time → Member → List Extent
extents_at instant (Closed x) = x ∷ []
extents_at instant (Short x) = []
extents_at instant (Endless x) = repeated (ended_by instant x) x

-- every segment
abbrev pub extents : Time → List Member → List Extent
extents instant members = flat_map (extents_at instant) members

-- where a segment begins and ends, and its number
pub record Timing : Type 0 where
  pub start : Time
  pub end : Time
  pub number : ℕ

-- the segments are numbered in order
abbrev pub numbered : ℕ → List Extent → List Timing
numbered first [] = []
numbered first (x ∷ xs) = record { start = x.start; end = x.end; number = first } ∷ numbered (first + 1) xs

abbrev pub goes_on : Member → Bool
goes_on (Closed x) = false
goes_on (Short x) = false
goes_on (Endless x) = true

-- whether segments continue to the end of an open Period
abbrev pub is_open : List Member → Bool
is_open members = list_any goes_on members

-- The segments of a Representation in one Period at every time, their numbers and their names. `ticks` make a second,
-- `origin` is the media time of the Period's start, and `offset` is `@presentationTimeOffset`, which doesn't matter for
-- `@duration`.
pub record SegmentTimeline : Type 0 where
  pub members : List Member
  pub ticks : ℕ
  pub origin : ℕ
  pub offset : ℕ
  pub first_number : ℕ
  pub names : Names

-- the whole expansion, at a time where the Period's end is open
abbrev pub expansion_at : Time → SegmentTimeline → List Timing
expansion_at instant timeline = numbered timeline.first_number (extents instant timeline.members)
