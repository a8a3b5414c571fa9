-- the rest of both is the same where both are
use Rattle.std.proofs.Common.{◌≡◌, drop}
use Rattle.page_server.specs.Sources.{are_same}
use Rattle.page_server.proofs.sources.are_same.Given as goal

abbrev pub invariant-loop-place : goal.invariant-loop-place
invariant-loop-place l = are_same (drop l.place l.first) (drop l.place l.second) ≡ are_same l.first l.second
