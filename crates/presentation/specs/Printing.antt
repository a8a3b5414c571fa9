-- Segments with their printed durations.
use Rattle.std.specs.Prelude.{◌≡◌, ℕ, ◌<◌, ◌^◌, List, [], ◌∷◌, map, filter, drop, ◌++◌, All, false, ◌+◌, ◌≤◌, Option, Some, None, Result}
use Rattle.std.specs.Prelude.{Ok, Err, IsSome, IfSome, slice_get}
use Rattle.exact_time.specs.{Time.{Time, IsAtMost, before, seconds}, Tick.time_of, Rounding.printed, Equal.summed_up}
use Rattle.timeline.specs.{SpanRuns.timings_of, declared.fault.ListFault.ListFault, Names.list_refusal, Expansions.Extent}
use Rattle.timeline.specs.{Expansions.{SegmentTimeline, Timing}, Faults.is_apart, Listed.{CanBeNamed, Made, part_of_timing, timing_of}}
use Rattle.timeline.specs.{Listed.IsReached, declared.span.Span.Span}
use Rattle.url_parts.specs.declared.address.Part.{Part}
use Rattle.presentation.specs.{declared.segments.Behind.Behind, declared.segments.PrintedRun.PrintedRun, Presented.{Presented, content_at}}
use Rattle.presentation.specs.Presented.{window_of, listed_at}

-- a segment's times and number, and its duration in units
pub record PrintedTiming : Type 0 where
  pub times : Timing
  pub duration : ℕ

-- each segment with its duration
abbrev pub with_durations : List Timing → List ℕ → List PrintedTiming
with_durations [] durations = []
with_durations (x ∷ xs) [] = []
with_durations (x ∷ xs) (d ∷ ds) = record { times = x; duration = d } ∷ with_durations xs ds

-- where the first segment begins
abbrev pub begin_of : List Timing → Time
begin_of [] = seconds 0
begin_of (x ∷ xs) = x.start

abbrev pub ends_of : List Timing → List Time
ends_of xs = map (λ x. x.end) xs

-- the durations of some segments; the first argument is the units per second
abbrev pub durations_of : ℕ → List Timing → List ℕ
durations_of unit xs = printed unit (begin_of xs) (ends_of xs)

abbrev pub printed_timings : ℕ → List Timing → List PrintedTiming
printed_timings unit xs = with_durations xs (durations_of unit xs)

-- the rest of segments that are made one by one
pub record PrintedRest : Type 0 where
  pub timeline : SegmentTimeline
  pub left : List PrintedTiming

-- all of some segments
abbrev pub rest_of : SegmentTimeline → List Timing → ℕ → PrintedRest
rest_of timeline xs unit = record { timeline = timeline; left = printed_timings unit xs }

-- those that end after a time
abbrev pub later_than : Time → List Timing → List Timing
later_than former xs = filter (λ x. before former x.end) xs

-- The printed durations of segments that continue after others, of which the first one began at `first`, and the last one
-- ended at `former`.
abbrev pub durations_after : ℕ → (first former : Time) → List Timing → List ℕ
durations_after unit first former xs = drop 1 (printed unit first (former ∷ ends_of xs))

-- all of some segments, or those that continue after others
abbrev pub listed_behind : Option Behind → List Timing → List Timing
listed_behind None xs = xs
listed_behind (Some behind) xs = later_than (time_of behind.former) xs

abbrev pub printed_behind : Option Behind → ℕ → List Timing → List PrintedTiming
printed_behind None unit xs = printed_timings unit xs
printed_behind (Some behind) unit xs =
    let later = later_than (time_of behind.former) xs in
    with_durations later (durations_after unit (time_of behind.first) (time_of behind.former) later)

abbrev pub rest_behind : Option Behind → SegmentTimeline → List Timing → ℕ → PrintedRest
rest_behind behind timeline xs unit = record { timeline = timeline; left = printed_behind behind unit xs }

abbrev pub extent_of : Timing → Extent
extent_of x = record { start = x.start; end = x.end }

-- the gap or overlap between a time and the first of some segments is at most half its duration
abbrev pub FollowsNear : Time → List Timing → Type 0
FollowsNear former xs = IfSome (slice_get xs 0) (λ x. is_apart (Some former) (extent_of x) ≡ false)

pub record GoesOn (xs : List Timing) (behind : Behind) : Type 0 where
  pub begun : IsAtMost (time_of behind.first) (time_of behind.former)
  pub near : FollowsNear (time_of behind.former) (later_than (time_of behind.former) xs)

-- segments that continue to an open end break no limit at the current time
abbrev pub IsCounted : Presented → ℕ → ℕ → Type 0
IsCounted p s t = IfSome (content_at p s t) (λ content. IsReached content.runs (window_of p s))

-- all segments of a track in a section
abbrev pub IsPrintedOf : Presented → ℕ → ℕ → ℕ → PrintedRest → Type 0
IsPrintedOf p s t unit rest = IfSome (content_at p s t) (λ content. rest ≡ rest_of content.runs (listed_at p s t) unit)

-- those after others
abbrev pub IsPrintedBehind : Presented → ℕ → ℕ → Option Behind → ℕ → PrintedRest → Type 0
IsPrintedBehind p s t behind unit rest =
    IfSome (content_at p s t) (λ content. rest ≡ rest_behind behind content.runs (listed_at p s t) unit)

-- the next segment was made, with its own URL and its duration
pub record IsNext (old : PrintedRest) (made : Made) (duration : ℕ) (new : PrintedRest) : Type 0 where
  pub next : old.left ≡ record { times = made.times; duration = duration } ∷ new.left
  pub part : part_of_timing old.timeline made.times ≡ Ok made.part
  pub timeline : new.timeline ≡ old.timeline

-- no segment was left
pub record IsAtEnd (old new : PrintedRest) : Type 0 where
  pub none : old.left ≡ []
  pub same : new ≡ old

-- the next segment has no URL, or memory ran out, and nothing has changed
pub record IsHeld (old : PrintedRest) (fault : ListFault) (new : PrintedRest) : Type 0 where
  pub same : new ≡ old
  pub some : IsSome (slice_get old.left 0)
  pub refused : IfSome (list_refusal fault) (λ f. IfSome (slice_get old.left 0) (λ x. part_of_timing old.timeline x.times ≡ Err f))

-- the next segment was passed, with its duration
pub record IsPassed (old : PrintedRest) (times : Timing) (duration : ℕ) (new : PrintedRest) : Type 0 where
  pub next : old.left ≡ record { times = times; duration = duration } ∷ new.left
  pub can : CanBeNamed old.timeline times
  pub countable : times.number < 2 ^ 64
  pub timeline : new.timeline ≡ old.timeline

-- the next segment, which has a URL, was passed or made
pub record IsStep (old : PrintedRest) (duration : ℕ) (new : PrintedRest) : Type 0 where
  pub times : Timing
  pub part : Part
  pub next : old.left ≡ record { times = times; duration = duration } ∷ new.left
  pub has : part_of_timing old.timeline times ≡ Ok part
  pub timeline : new.timeline ≡ old.timeline

-- a segment's times with its duration
abbrev pub timed : Span × ℕ → PrintedTiming
timed passed = record { times = timing_of passed.0; duration = passed.1 }

-- The next segments, each as long as the first one, were passed: with the first one's printed duration, and the number, sum
-- and maximum of those of the others.
pub record IsNextRun (old : List PrintedTiming) (run : PrintedRun) (new : List PrintedTiming) : Type 0 where
  pub durations : List ℕ
  pub next : old ≡ with_durations (timings_of run.spans) (run.first ∷ durations) ++ new
  pub some : 0 < run.spans.count
  pub others : run.others ≡ summed_up durations
  pub even : All (λ duration. run.others.longest ≤ duration + 1) durations
  pub countable : run.spans.first.number + run.spans.count ≤ 2 ^ 64

-- how many segments a call passed
abbrev pub passed_count : Option (Span × ℕ) → ℕ
passed_count (Some passed) = 1
passed_count None = 0

abbrev pub step_count : Result (Option ℕ) ListFault → ℕ
step_count (Ok (Some duration)) = 1
step_count (Ok None) = 0
step_count (Err fault) = 0

-- how many segments a call made
abbrev pub made_count : Result (Option (Made × ℕ)) ListFault → ℕ
made_count (Ok (Some made)) = 1
made_count (Ok None) = 0
made_count (Err fault) = 0
