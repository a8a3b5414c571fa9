use Rattle.iso_time.proofs.duration.push_fraction.Given as goal
use Rattle.std.proofs.Common.{◌≡◌, ◌+◌, ◌≤◌, ◌++◌, ◌∷◌, length}
use Rattle.iso_time.specs.{Digits.padded_digits, Duration.without_zeros}

abbrev pub invariant-loop-place : goal.invariant-loop-place
invariant-loop-place l =
    (l.text.bytes ++ without_zeros (padded_digits l.place l.nanos) ≡ l.fn.text.bytes ++ 46 ∷ without_zeros (padded_digits 9 l.nanos))
    × (length l.text.bytes + l.place ≤ length l.fn.text.bytes + 10)
