use Rattle.dash_writer.proofs.escape.push_escaped.Given as goal
use Rattle.std.proofs.Common.{length}
use Rattle.mpd_tree.specs.Escapes.{escape_all}
use Rattle.dash_writer.proofs.Progress.{Progress}

abbrev pub invariant-loop-place : goal.invariant-loop-place
invariant-loop-place g l =
    Progress g.F.Store (escape_all l.text) (escape_all l.rest) l.initial.sheet l.sheet

abbrev pub decreases-loop-place : goal.decreases-loop-place
decreases-loop-place g l = length l.rest
