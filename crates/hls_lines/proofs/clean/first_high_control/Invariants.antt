use Rattle.std.proofs.Common.{◌≡◌, ◌-◌, ◌≤◌, drop, length}
use Rattle.hls_lines.specs.Characters.{high_control_from}
use Rattle.hls_lines.proofs.clean.first_high_control.Given as goal

abbrev pub invariant-loop-passed : goal.invariant-loop-passed
invariant-loop-passed l = record {
  within : l.at ≤ length l.bytes;
  before : high_control_from l.at (drop l.at l.bytes) ≡ high_control_from 0 l.bytes;
}

abbrev pub decreases-loop-passed : goal.decreases-loop-passed
decreases-loop-passed l = length l.bytes - l.at
