use Rattle.std.proofs.Common.{◌≡◌, ◌++◌, ◌-◌, ◌*◌, All, length}
use Rattle.fragment_times.specs.Times.{IsScaled}
use Rattle.bridge_reach.specs.DashTimes.{runs_from, runs_of}
use Rattle.bridge_reach.proofs.dash_times.runs_of.Given as goal

-- the runs so far, and then those of the sections that are left, are all
abbrev pub invariant-loop-section : goal.invariant-loop-section
invariant-loop-section l =
    let p = l.fn.presentation in
    let left = length p.sections - l._section in
    record {
      filled : length l.times ≡ left * length p.tracks;
      as_many : length l.rows ≡ length l.times;
      scaled : All IsScaled l.times;
      told : l.runs ++ runs_from l.form (length p.tracks) left l.times l.rows ≡ runs_of l.form p l.fn.times l.fn.durations;
    }
