use Rattle.std.proofs.Common.{◌≡◌, ◌++◌, length}
use Rattle.followed_text.specs.Followed.{items_of}
use Rattle.followed_text.proofs.followed.items_of.Given as goal

abbrev pub invariant-loop-segment : goal.invariant-loop-segment
invariant-loop-segment l = items_of l.digits l.fn.segments l.fn.dates ≡ l.items.items ++ items_of l.digits l.segments l.dates

abbrev pub decreases-loop-segment : goal.decreases-loop-segment
decreases-loop-segment l = length l.segments
