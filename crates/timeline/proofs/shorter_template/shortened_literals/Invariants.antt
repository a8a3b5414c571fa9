use Rattle.std.proofs.Common.{length, string_bytes}
use denote.Text.{Utf8}
use denote.Shadow.{shadow}
use Rattle.timeline.proofs.MediaTemplates.{IsMade}
use Rattle.timeline.proofs.shorter_template.shortened_literals.Given as goal

abbrev pub invariant-loop-literal : goal.invariant-loop-literal
invariant-loop-literal l = shadow (Utf8 l.rest) × IsMade l.in_path l.text (string_bytes l.short) l.rest

abbrev pub decreases-loop-literal : goal.decreases-loop-literal
decreases-loop-literal l = length l.rest
