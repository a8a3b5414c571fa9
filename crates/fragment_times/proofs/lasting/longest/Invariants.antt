use Rattle.std.proofs.Common.{◌≡◌, ◌<◌, ◌^◌, drop}
use Rattle.fragment_times.specs.Durations.{longest, longest_behind}
use Rattle.fragment_times.proofs.lasting.longest.Given as goal

-- the longest one so far, and then of the tracks that are left, is the longest one of all
abbrev pub invariant-loop-place : goal.invariant-loop-place
invariant-loop-place l = record {
  bounded : l.longest < 2 ^ 95;
  told : longest_behind l.start l.longest (drop l.place l.times) (drop l.place l.durations) ≡ longest l.start l.times l.durations;
}
