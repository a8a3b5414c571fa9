use Rattle.hls_presentation.proofs.contents.Ticks.spans.Given as goal
use Rattle.std.proofs.Common.{◌≡◌, ◌+◌, ◌/◌, ◌++◌, drop, map}
use Rattle.exact_time.specs.{Tick.time_of, Time.in_units}
use Rattle.timeline.specs.Durations.{extent_of}
use Rattle.hls_presentation.specs.{Presenting.{extents_from, ticks_by_second}, Sections.length_of}

abbrev pub invariant-loop-segment : goal.invariant-loop-segment
invariant-loop-segment l = record {
  start : time_of l.start ≡ in_units (ticks_by_second l.self.nanos) (l.time / l.self.nanos);
  told : map extent_of l.spans.items ++ extents_from l.self.nanos l.time (drop l.segment-index l.group)
      ≡ extents_from l.self.nanos 0 l.group;
  sum : l.time + length_of (drop l.segment-index l.group) ≡ length_of l.group;
}
