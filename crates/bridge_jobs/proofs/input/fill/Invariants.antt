use Rattle.std.proofs.Common.{◌-◌, ◌≤◌, length}
use Rattle.bridge_jobs.proofs.Filling.{IsFilled}
use Rattle.bridge_jobs.proofs.input.fill.Given as goal

abbrev pub invariant-loop-filled : goal.invariant-loop-filled
invariant-loop-filled g l =
    let source = g.I.Source in
    record {
      within : l.filled ≤ length l.buf;
      so_far : IsFilled l.filled l.buf (source.remaining l.fn.input) (source.remaining l.input);
      never_falls : source.faults l.fn.input ≤ source.faults l.input;
    }

abbrev pub decreases-loop-filled : goal.decreases-loop-filled
decreases-loop-filled g l = length l.buf - l.filled
