use Rattle.segment_forms.proofs.place.common_len.Given as goal
use Rattle.std.proofs.Common.{◌≡◌, ◌+◌, ◌-◌, ◌≤◌, length, drop}
use Rattle.std.specs.{Prelude.nat_eq, List.common_prefix_len}

-- the bytes so far are the same in both
abbrev pub invariant-loop-len : goal.invariant-loop-len
invariant-loop-len l = (l.len ≤ length l.first) × (l.len ≤ length l.second)
    × (l.len + common_prefix_len nat_eq (drop l.len l.first) (drop l.len l.second) ≡ common_prefix_len nat_eq l.first l.second)

abbrev pub decreases-loop-len : goal.decreases-loop-len
decreases-loop-len l = length l.first - l.len
