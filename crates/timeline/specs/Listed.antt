-- Which segments are listed, and from where on.
use Rattle.std.specs.Prelude.{◌≡◌, ℕ, ◌-◌, ◌<◌, ◌≤◌, ◌^◌, ℤ, pos, ◌+ℤ◌, Bool, true, false, ◌&&◌, ◌⊎◌, List, [], ◌∷◌, filter, take, drop}
use Rattle.std.specs.Prelude.{length, slice_get, All, IsSome, IfSome, Option, Some, None, unwrap_or, Result, Ok, Err, if◌then◌else◌}
use Rattle.std.specs.List.{list_any}
use Rattle.exact_time.specs.{Time.{Time, seconds, before, at_most, nanoseconds}, Tick.time_of}
use Rattle.url_parts.specs.declared.address.Part.{Part}
use Rattle.timeline.specs.{declared.window.Window.Window, declared.span.Span.Span, declared.fault.TimeFault.TimeFault}
use Rattle.timeline.specs.{declared.fault.TimeFault.TheVariants.Range, declared.fault.ListFault.ListFault, Ratios.natural}
use Rattle.timeline.specs.{Limits.breaks_limits, Expansions.{SegmentTimeline, Member, Closed, Short, Endless, Timing, is_open, extents_at}}
use Rattle.timeline.specs.{Expansions.expansion_at, Names.{part_of, list_refusal}}

abbrev pub is_after : Option ℤ → Time → Bool
is_after None end = true
is_after (Some after) end = before (nanoseconds after) end

abbrev pub is_until : Option ℤ → Time → Bool
is_until None end = true
is_until (Some until) end = at_most end (nanoseconds until)

-- a segment that ends after the Period's start, and inside the window
abbrev pub is_listed : Window → Timing → Bool
is_listed window x = before (seconds 0) x.end && is_after window.after x.end && is_until window.until x.end

abbrev pub listed : Window → List Timing → List Timing
listed window xs = filter (is_listed window) xs

-- the time that the segments of an open end continue to
abbrev pub instant_of : Window → Time
instant_of window = nanoseconds (unwrap_or window.until (pos 0))

-- the whole expansion, with an open end taken at the window's `until`
abbrev pub expansion : SegmentTimeline → Window → List Timing
expansion timeline window = expansion_at (instant_of window) timeline

-- the listed segments from an index in the whole expansion on
abbrev pub listed_from : ℕ → SegmentTimeline → Window → List Timing
listed_from place timeline window = listed window (drop place (expansion timeline window))

-- whether segments that continue to an open end reach one that breaks the limits
abbrev pub reaches_fault : SegmentTimeline → Window → Member → Bool
reaches_fault timeline window (Closed x) = false
reaches_fault timeline window (Short x) = false
reaches_fault timeline window (Endless x) = list_any (breaks_limits timeline.ticks timeline.origin)
    (extents_at (instant_of window) (Endless x))

abbrev pub is_out_of_range : SegmentTimeline → Window → Bool
is_out_of_range timeline window = list_any (reaches_fault timeline window) timeline.members

-- the number of listed segments
abbrev pub answered_count : SegmentTimeline → Window → Result ℕ TimeFault
answered_count timeline window = if is_out_of_range timeline window then Err Range
    else Ok (length (listed window (expansion timeline window)))

-- an open end needs an `until`
abbrev pub IsWindowOf : SegmentTimeline → Window → Type 0
IsWindowOf timeline window = is_open timeline.members ≡ true → IsSome window.until

-- `count` doesn't return `Range`
abbrev pub IsReached : SegmentTimeline → Window → Type 0
IsReached timeline window = is_out_of_range timeline window ≡ false

-- the index of the first listed segment, where there is one
pub record IsFirstListed (window : Window) (xs : List Timing) (place : ℕ) : Type 0 where
  pub none_before : listed window (take place xs) ≡ []
  pub stands : (listed window xs ≡ []) ⊎ IsSome (slice_get (listed window (take 1 (drop place xs))) 0)

-- an index after all segments that end by a time, and before all that end after it; at the end or after it, where there are
-- none of these
pub record IsPlaceAfter (time : Time) (xs : List Timing) (place : ℕ) : Type 0 where
  pub none_before : All (λ x. at_most x.end time ≡ true) (take place xs)
  pub all_behind : All (λ x. before time x.end ≡ true) (drop place xs)

abbrev pub timing_of : Span → Timing
timing_of span = record { start = time_of span.start; end = time_of span.end; number = span.number }

-- `@presentationTimeOffset` in seconds
abbrev pub offset_of : SegmentTimeline → Time
offset_of timeline = record { ticks = pos timeline.offset; scale = timeline.ticks }

-- the segment's media time
abbrev pub media_time : SegmentTimeline → Timing → ℕ
media_time timeline x = natural (x.start.ticks +ℤ pos timeline.origin)

-- the URL and byte range of a segment
abbrev pub part_of_timing : SegmentTimeline → Timing → Result Part ListFault
part_of_timing timeline x = part_of timeline.names (x.number - timeline.first_number) x.number (media_time timeline x)

-- what a `Segment` is
pub record Made : Type 0 where
  pub part : Part
  pub times : Timing

-- what a `Listing` has not made yet
pub record Rest : Type 0 where
  pub timeline : SegmentTimeline
  pub left : List Timing

-- the next segment was made, with its own URL
pub record IsMade (old : Rest) (made : Made) (new : Rest) : Type 0 where
  pub next : old.left ≡ made.times ∷ new.left
  pub part : part_of_timing old.timeline made.times ≡ Ok made.part
  pub timeline : new.timeline ≡ old.timeline

-- no segment was left
pub record IsDone (old new : Rest) : Type 0 where
  pub none : old.left ≡ []
  pub same : new ≡ old

-- the next segment has no URL, or memory ran out, and nothing has changed
pub record IsHeld (old : Rest) (fault : ListFault) (new : Rest) : Type 0 where
  pub same : new ≡ old
  pub some : IsSome (slice_get old.left 0)
  pub refused : IfSome (list_refusal fault) (λ f. IfSome (slice_get old.left 0) (λ x. part_of_timing old.timeline x ≡ Err f))

-- how many segments a call made
abbrev pub made_count : Result (Option Made) ListFault → ℕ
made_count (Ok (Some made)) = 1
made_count (Ok None) = 0
made_count (Err fault) = 0

-- a segment's number and media time are those of a name
pub record CanBeNamed (timeline : SegmentTimeline) (x : Timing) : Type 0 where
  pub numbered : timeline.first_number ≤ x.number
  pub timed : media_time timeline x < 2 ^ 64

-- the iterator moved past the next segment
pub record IsPassed (old : Rest) (times : Timing) (new : Rest) : Type 0 where
  pub next : old.left ≡ times ∷ new.left
  pub can : CanBeNamed old.timeline times
  pub countable : times.number < 2 ^ 64
  pub timeline : new.timeline ≡ old.timeline

-- how many segments a call moved past
abbrev pub passed_count : Option Span → ℕ
passed_count (Some span) = 1
passed_count None = 0

abbrev pub IsWithin : SegmentTimeline → List Timing → Type 0
IsWithin timeline left = All (CanBeNamed timeline) left
