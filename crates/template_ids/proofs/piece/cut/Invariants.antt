use Rattle.std.proofs.Common.{length}
use denote.Text.{Utf8}
use denote.Shadow.{shadow}
use Rattle.template_ids.proofs.Cutting.{Reads}
use Rattle.template_ids.proofs.piece.cut.Given as goal

abbrev pub invariant-loop-literal : goal.invariant-loop-literal
invariant-loop-literal l = shadow (Utf8 l.rest) × Reads l.text l.pieces.items l.rest

abbrev pub decreases-loop-literal : goal.decreases-loop-literal
decreases-loop-literal l = length l.rest
