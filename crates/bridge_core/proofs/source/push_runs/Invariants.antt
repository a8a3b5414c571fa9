use Rattle.std.proofs.Common.{◌≡◌, ◌++◌, flat_map}
use Rattle.std.specs.String.{string_bytes}
use Rattle.presentation.proofs.Counts.{from_on}
use Rattle.bridge_core.specs.Source.{run_at, runs_text}
use Rattle.bridge_core.proofs.source.push_runs.Given as goal

-- the runs so far are added
abbrev pub invariant-loop-run : goal.invariant-loop-run
invariant-loop-run l =
    string_bytes l.text ++ flat_map (run_at l.side l.seed) (from_on l.run l.count)
    ≡ string_bytes l.fn.text ++ runs_text l.side l.seed l.count
