use Rattle.std.proofs.Common.{◌≡◌, max, drop}
use Rattle.dash_writer.specs.Timed.{longest}
use Rattle.dash_writer.proofs.timed.longest.Given as goal

-- what is left makes it the longest of all
abbrev pub invariant-loop-run : goal.invariant-loop-run
invariant-loop-run l = max l.longest (longest (drop l.run-index l.runs)) ≡ longest l.runs
