use Rattle.std.proofs.Common.{◌≡◌, ◌≤◌, ◌+◌, drop, length}
use Rattle.fragment_times.specs.Parts.{IsPassed}
use Rattle.fragment_times.proofs.part.pass.Given as goal

abbrev pub invariant-loop-found : goal.invariant-loop-found
invariant-loop-found l = record {
  within : l.from ≤ length l.fn.bytes;
  left : l.boxes ≡ record { at = l.first + l.from; bytes = drop l.from l.fn.bytes };
  passed : IsPassed l.kind l.first l.from l.fn.bytes;
}

abbrev pub decreases-loop-found : goal.decreases-loop-found
decreases-loop-found l = length l.boxes.bytes
