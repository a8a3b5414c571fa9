use Rattle.std.proofs.Common.{◌-◌, ◌≤◌, length}
use Rattle.bridge_jobs.proofs.Lines.{IsLineSoFar}
use Rattle.bridge_jobs.proofs.input.read_line.Given as goal

abbrev pub invariant-loop-input : goal.invariant-loop-input
invariant-loop-input g l =
    let source = g.I.Source in
    record {
      room : length l.line ≤ l.most;
      so_far : IsLineSoFar l.most l.line (source.remaining l.fn.input) (source.remaining l.input);
      never_falls : source.faults l.fn.input ≤ source.faults l.input;
    }

abbrev pub decreases-loop-input : goal.decreases-loop-input
decreases-loop-input g l = l.most - length l.line
