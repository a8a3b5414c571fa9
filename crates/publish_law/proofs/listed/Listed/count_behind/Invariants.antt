use Rattle.std.proofs.Common.{◌≡◌, ◌+◌, ◌≤◌, length}
use Rattle.std.specs.List.{suffix_len}
use Rattle.publish_law.specs.Identities.{is_new}
use Rattle.publish_law.proofs.listed.Listed.count_behind.Given as goal

abbrev pub invariant-loop-last : goal.invariant-loop-last
invariant-loop-last l = (length l.items ≤ length l.initial.items)
    × (suffix_len (is_new l.self) l.initial.items + length l.items ≡ length l.initial.items + suffix_len (is_new l.self) l.items)

abbrev pub decreases-loop-last : goal.decreases-loop-last
decreases-loop-last l = length l.items
