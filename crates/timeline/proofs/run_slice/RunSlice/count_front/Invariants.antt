use Rattle.std.proofs.Common.{◌-◌}
use Rattle.timeline.specs.RunTables.{IsNarrowed, slice_runs}
use Rattle.timeline.proofs.run_slice.RunSlice.count_front.Given as goal

abbrev pub invariant-loop-low : goal.invariant-loop-low
invariant-loop-low l = IsNarrowed l.test (slice_runs l.self) l.low l.high

abbrev pub decreases-loop-low : goal.decreases-loop-low
decreases-loop-low l = l.high - l.low
