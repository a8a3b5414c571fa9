use Rattle.hls_lines.proofs.lines.Lines.next.Given as goal
use Rattle.std.proofs.Common.{◌≡◌, length}
use denote.Shadow.{shadow}
use denote.Text.{Utf8}
use Rattle.hls_lines.specs.{Bounds.HasRoom, Lines.text_lines}

abbrev pub invariant-loop-self : goal.invariant-loop-self
invariant-loop-self l = shadow (Utf8 l.self-inside.rest.now)
    × (text_lines l.self-inside.place l.self-inside.rest.now ≡ text_lines l.initial.self-inside.place l.initial.self-inside.rest.now)
    × HasRoom l.self-inside.place (length l.self-inside.rest.now)

abbrev pub decreases-loop-self : goal.decreases-loop-self
decreases-loop-self l = length l.self-inside.rest.now
