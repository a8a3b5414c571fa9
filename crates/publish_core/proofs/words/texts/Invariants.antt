use Rattle.std.proofs.Common.{◌≡◌, ◌∷◌, map, take}
use Rattle.publish_core.specs.Words.{program_word}
use Rattle.publish_core.proofs.words.texts.Given as goal

abbrev pub invariant-loop-word : goal.invariant-loop-word
invariant-loop-word l = map (λ text. text.now) l.texts.items ≡ program_word ∷ take l.word-index l.words
