use Rattle.segment_forms.proofs.run.run_start.Given as goal
use Rattle.std.proofs.Common.{◌≡◌, ◌+◌, ◌<◌, ◌≤◌, true, length, take, get_or}
use Rattle.std.specs.{Char.is_ascii_digit, List.suffix_len}

-- the bytes from here to the place are digits
abbrev pub invariant-loop-start : goal.invariant-loop-start
invariant-loop-start l = (l.start ≤ l.place) × (l.place < length l.text) × (is_ascii_digit (get_or l.text l.start 0) ≡ true)
    × (l.start + suffix_len is_ascii_digit (take l.place l.text) ≡ l.place + suffix_len is_ascii_digit (take l.start l.text))

abbrev pub decreases-loop-start : goal.decreases-loop-start
decreases-loop-start l = l.start
