use Rattle.std.proofs.Common.{◌≡◌, drop}
use Rattle.bridge_explained.specs.Words.{explain_place}
use Rattle.bridge_explained.proofs.words.explain_place.Given as goal

abbrev pub invariant-loop-place : goal.invariant-loop-place
invariant-loop-place l = explain_place l.place (drop l.place l.words) ≡ explain_place 0 l.words
