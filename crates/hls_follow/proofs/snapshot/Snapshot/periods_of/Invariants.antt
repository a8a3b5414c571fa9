use Rattle.hls_follow.proofs.snapshot.Snapshot.periods_of.Given as goal
use Rattle.std.proofs.Common.{◌≡◌, ◌<◌, ◌-◌, ◌*◌, ◌^◌, All, drop, length}
use Rattle.hls_follow.specs.{Faults.behind, Kept.HasScales, OwnTimes.snapshot_of, Ticks.IsWhole, TimedPeriods.{periods_from, periods_of}}

-- what is told so far, and then of the sections that are left, is told of all
abbrev pub invariant-loop-place : goal.invariant-loop-place
invariant-loop-place l =
    let s = snapshot_of l.fn.self in
    record {
      near : l.former < 2 ^ 66;
      many : length l.rest ≡ (length s.sections - l.place) * length s.tracks;
      whole : All IsWhole l.rest;
      told : behind l.periods (periods_from s l.former l.place (drop l.place s.sections) l.rest) ≡ periods_of s l.runs;
      filled : All (λ p. length p.runs ≡ length s.tracks) l.periods;
      scaled : All HasScales l.periods;
    }
