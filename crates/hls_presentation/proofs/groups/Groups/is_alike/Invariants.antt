use Rattle.std.proofs.Common.{◌≡◌, drop}
use Rattle.hls_presentation.specs.Sections.{are_alike}
use Rattle.hls_presentation.proofs.groups.Groups.is_alike.Given as goal

abbrev pub invariant-loop-place : goal.invariant-loop-place
invariant-loop-place l = are_alike (drop l.place l.self) (drop l.place l.other) ≡ are_alike l.self l.other
