-- How many segments end by a time.
use Rattle.std.specs.Prelude.{◌≡◌, ℕ, ◌+◌, ◌<◌, ◌^◌, List, filter, flat_map, sum_by, count_by, not, if◌then◌else◌}
use Rattle.exact_time.specs.Time.{Time, at_most}
use Rattle.timeline.specs.Expansions.{SegmentTimeline, Extent, Member, Closed, Short, Endless, ended_by, extents_at, goes_on}
use Rattle.timeline.specs.{Listed.{expansion, instant_of, is_until}, RunSegments.{TimedRun, IsRun, extents_of, count_ended}}
use Rattle.timeline.specs.declared.window.Window.{Window}

abbrev pub closed_by : Time → Member → ℕ
closed_by time (Closed x) = if at_most x.end time then 1 else 0
closed_by time (Short x) = 0
closed_by time (Endless x) = 0

abbrev pub reached_by : Time → Member → ℕ
reached_by time (Closed x) = closed_by time (Closed x)
reached_by time (Short x) = 0
reached_by time (Endless x) = ended_by time x

-- how many segments end at or before a time, without those that continue to an open end
abbrev pub closed_count : SegmentTimeline → Time → ℕ
closed_count timeline time = sum_by (closed_by time) timeline.members

-- a run that determines how many segments end at or before a time: all those before it, and some of its own
pub record IsLastBegun (timeline : SegmentTimeline) (time : Time) (s : TimedRun) : Type 0 where
  pub is : IsRun s
  pub ended : closed_count timeline time ≡ s.before + count_ended time (extents_of s)
  pub fits : closed_count timeline time < 2 ^ 64

-- how many segments there are, without those that continue to an open end
abbrev pub closed_total : SegmentTimeline → ℕ
closed_total timeline = count_by (λ x. not (goes_on x)) timeline.members

-- how many segments end at or before a time, with an open end taken at that time
abbrev pub reached_count : SegmentTimeline → Time → ℕ
reached_count timeline time = sum_by (reached_by time) timeline.members

-- how many segments end by the window's `until`
abbrev pub count_until : SegmentTimeline → Window → ℕ
count_until timeline window = count_by (λ x. is_until window.until x.end) (expansion timeline window)

-- the segments that continue to an open end, up to the window's `until`
abbrev pub open_extents : SegmentTimeline → Window → List Extent
open_extents timeline window = flat_map (extents_at (instant_of window)) (filter goes_on timeline.members)
