use Rattle.std.proofs.Common.{◌≡◌, ◌++◌, drop}
use Rattle.bridge_explained.specs.Words.{without}
use Rattle.bridge_explained.proofs.words.words_without.Given as goal

abbrev pub invariant-loop-index : goal.invariant-loop-index
invariant-loop-index l = l.rest ++ without l.place l.index (drop l.index l.words) ≡ without l.place 0 l.words
