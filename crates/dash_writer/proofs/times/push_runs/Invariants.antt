use Rattle.dash_writer.proofs.times.push_runs.Given as goal
use Rattle.std.proofs.Common.{◌+◌, ◌<◌, ◌^◌, length}
use Rattle.dash_writer.specs.{SegmentRuns.{IsAlone, runs_left}, Written.elements_text}
use Rattle.dash_writer.proofs.Progress.{Progress}

abbrev pub invariant-loop-duration : goal.invariant-loop-duration
invariant-loop-duration g l =
    let durations = g.D.Durations.durations in
    record {
      room : l.run.repeats + length (durations l.durations) < 2 ^ 64;
      alone : IsAlone l.fn.joined l.run;
      so_far : Progress g.F.Store (elements_text (runs_left l.fn.joined l.fn.first (durations l.initial.durations))) (elements_text (runs_left l.fn.joined l.run
          (durations l.durations)))
          l.initial.sheet l.sheet;
    }

abbrev pub decreases-loop-duration : goal.decreases-loop-duration
decreases-loop-duration g l = length (g.D.Durations.durations l.durations)
