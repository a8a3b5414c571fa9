use Rattle.std.proofs.Common.{◌++◌, length}
use Rattle.url_parts.specs.Alike.{IsOpen, IsReadAs}
use Rattle.url_parts.proofs.alike.without_detours.Given as goal

-- the shorter text and the rest stand for the text
abbrev pub invariant-loop-segment : goal.invariant-loop-segment
invariant-loop-segment l = IsReadAs l.text (l.short.items ++ l.rest) × IsOpen l.short.items

abbrev pub decreases-loop-segment : goal.decreases-loop-segment
decreases-loop-segment l = length l.rest
