use Rattle.hls_follow.proofs.snapshot.Snapshot.runs_at.Given as goal
use Rattle.std.proofs.Common.{◌≡◌, All, drop, length}
use Rattle.hls_follow.specs.{Faults.behind, Kept.HasScale, OwnTimes.snapshot_of, TimedPeriods.{live_runs, runs_at}}

abbrev pub invariant-loop-track : goal.invariant-loop-track
invariant-loop-track l =
    let s = snapshot_of l.fn.self in
    record {
      told : behind l.runs (live_runs l.place (drop l.track s.tracks) (drop l.track l.row)) ≡ runs_at s l.place l.row;
      filled : length l.runs ≡ l.track;
      scaled : All HasScale l.runs;
    }
