use Rattle.hls_follow.proofs.periods.periods_of.Given as goal
use Rattle.std.proofs.Common.{◌≡◌, ◌<◌, ◌^◌, All, drop, length}
use Rattle.hls_follow.specs.{Faults.behind, Kept.HasScales, Periods.{last_end, periods_from}}

abbrev pub invariant-loop-number : goal.invariant-loop-number
invariant-loop-number l = record {
  place : l.place ≡ l.number-index;
  near : l.former < 2 ^ 66;
  told : behind l.periods (periods_from l.known l.tracks l.former l.place (drop l.number-index l.sections))
      ≡ periods_from l.known l.tracks (last_end l.known) 0 l.sections;
  filled : All (λ p. length p.runs ≡ length l.tracks) l.periods;
  scaled : All HasScales l.periods;
}
