use Rattle.std.proofs.Common.{◌≡◌, ◌+◌, All, drop, length}
use Rattle.hls_follow.specs.{OwnTimes.{behind, snapshot_of}, Ticks.{IsWhole, row_runs, section_runs}}
use Rattle.hls_follow.proofs.snapshot.Snapshot.with_row.Given as goal

-- what is told so far, and then of the tracks that are left, is told of all
abbrev pub invariant-loop-track : goal.invariant-loop-track
invariant-loop-track l =
    let s = snapshot_of l.fn.self in
    record {
      whole : All IsWhole l.runs;
      filled : length l.runs ≡ length l.fn.former + l.track;
      told : behind l.runs (row_runs s l.place l.track l.origin (drop l.track l.row)) ≡ behind l.fn.former (section_runs s l.place l.row);
    }
