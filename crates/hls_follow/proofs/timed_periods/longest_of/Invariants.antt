use Rattle.std.proofs.Common.{◌≡◌, ◌<◌, ◌^◌, drop}
use Rattle.hls_follow.specs.TimedPeriods.{longest_behind, longest_of}
use Rattle.hls_follow.proofs.timed_periods.longest_of.Given as goal

abbrev pub invariant-loop-run : goal.invariant-loop-run
invariant-loop-run l = record {
  told : longest_behind l.longest (drop l.run-index l.row) ≡ longest_of l.row;
  near : l.longest < 2 ^ 95;
}
