use Rattle.hls_follow.proofs.periods.runs_of.Given as goal
use Rattle.std.proofs.Common.{◌≡◌, All, drop, length}
use Rattle.hls_follow.specs.{Faults.behind, Groups.row_at, Kept.HasScale, Periods.runs_of}

abbrev pub invariant-loop-track : goal.invariant-loop-track
invariant-loop-track l = record {
  told : behind l.runs (runs_of (row_at (drop l.track-index l.tracks) l.place)) ≡ runs_of (row_at l.tracks l.place);
  filled : length l.runs ≡ l.track-index;
  scaled : All HasScale l.runs;
}
