use Rattle.std.proofs.Common.{◌≡◌, ◌≤◌, length, take}
use Rattle.std.specs.Prelude.{sum}
use Rattle.bridge_jobs.specs.Frames.{IsBehind}
use Rattle.bridge_jobs.proofs.RoundsRead.{IsReadSoFar}
use Rattle.bridge_jobs.proofs.round.read_bodies.Given as goal

abbrev pub invariant-loop-length : goal.invariant-loop-length
invariant-loop-length g l =
    let source = g.I.Source in
    record {
      so_far : IsReadSoFar l.fn.place l.lengths l.length-index l.bodies l.at (source.remaining l.fn.input) (source.remaining l.input);
      place : IsBehind (sum (take l.length-index l.lengths)) l.fn.place l.at;
      count : length l.bodies ≡ l.length-index;
      never_falls : source.faults l.fn.input ≤ source.faults l.input;
    }
