use Rattle.std.proofs.Common.{◌≡◌, length}
use Rattle.followed_text.specs.Followed.{digits_of}
use Rattle.followed_text.proofs.marks.digits_in.Given as goal

abbrev pub invariant-loop-line : goal.invariant-loop-line
invariant-loop-line l = digits_of l.lines ≡ digits_of l.fn.lines

abbrev pub decreases-loop-line : goal.decreases-loop-line
decreases-loop-line l = length l.lines
