use Rattle.std.proofs.Common.{◌≡◌, ◌+◌, ◌*◌, All, drop, length}
use Rattle.fragment_times.specs.Times.{IsScaled}
use Rattle.hls_follow.specs.{OwnTimes.{behind, snapshot_of}, Ticks.{IsWhole, runs_from, runs_of}}
use Rattle.hls_follow.proofs.snapshot.Snapshot.runs.Given as goal

-- what is told so far, and then of the sections that are left, is told of all
abbrev pub invariant-loop-place : goal.invariant-loop-place
invariant-loop-place l =
    let s = snapshot_of l.fn.self in
    record {
      whole : All IsWhole l.runs;
      scaled : All IsScaled l.rest;
      left : length l.rest + l.place * length s.tracks ≡ length s.sections * length s.tracks;
      filled : length l.runs ≡ l.place * length s.tracks;
      told : behind l.runs (runs_from s l.place (drop l.place s.sections) l.rest) ≡ runs_of s l.fn.times;
    }
