use Rattle.mpd_text.proofs.clean.first_noncharacter.Given as goal
use Rattle.std.proofs.Common.{◌≡◌, ℕ, ◌-◌, ◌<◌, ◌≤◌, false, drop, length}
use Rattle.mpd_tree.specs.Characters.{begins_with_noncharacter}

abbrev pub invariant-loop-at : goal.invariant-loop-at
invariant-loop-at l = (l.from ≤ length l.bytes) × ((j : ℕ) → j < l.from → begins_with_noncharacter (drop j l.bytes) ≡ false)

abbrev pub decreases-loop-at : goal.decreases-loop-at
decreases-loop-at l = length l.bytes - l.from
