use Rattle.segment_forms.proofs.run.run_end.Given as goal
use Rattle.std.proofs.Common.{◌≡◌, ◌+◌, ◌-◌, ◌<◌, ◌≤◌, true, length, drop, get_or}
use Rattle.std.specs.{Char.is_ascii_digit, List.prefix_len}

-- the bytes from the place to here are digits
abbrev pub invariant-loop-end : goal.invariant-loop-end
invariant-loop-end l = (l.place < l.end) × (l.end ≤ length l.text) × (is_ascii_digit (get_or l.text (l.end - 1) 0) ≡ true)
    × (l.place + prefix_len is_ascii_digit (drop l.place l.text) ≡ l.end + prefix_len is_ascii_digit (drop l.end l.text))

abbrev pub decreases-loop-end : goal.decreases-loop-end
decreases-loop-end l = length l.text - l.end
