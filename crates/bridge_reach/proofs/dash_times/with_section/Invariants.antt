use Rattle.std.proofs.Common.{◌≡◌, ◌++◌, drop}
use Rattle.bridge_reach.specs.DashTimes.{section_runs}
use Rattle.bridge_reach.proofs.dash_times.with_section.Given as goal

-- the runs so far, and then those of the tracks that are left, are all
abbrev pub invariant-loop-track : goal.invariant-loop-track
invariant-loop-track l = l.runs ++ section_runs l.start (drop l.track l.times) (drop l.track l.durations)
    ≡ l.fn.former ++ section_runs l.start l.times l.durations
