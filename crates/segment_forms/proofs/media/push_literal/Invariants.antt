use Rattle.segment_forms.proofs.media.push_literal.Given as goal
use Rattle.std.proofs.Common.{◌≡◌, ◌++◌, length, string_bytes}
use denote.Text.{Utf8}
use denote.Shadow.{shadow}
use Rattle.segment_forms.specs.Media.{doubled}

-- what is left is still to be appended
abbrev pub invariant-loop-front : goal.invariant-loop-front
invariant-loop-front l = shadow (Utf8 l.rest) × (string_bytes l.text ++ doubled l.rest ≡ string_bytes l.fn.text ++ doubled l.part)

abbrev pub decreases-loop-front : goal.decreases-loop-front
decreases-loop-front l = length l.rest
