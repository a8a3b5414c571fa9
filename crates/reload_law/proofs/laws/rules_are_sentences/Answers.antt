use Rattle.reload_law.proofs.Sentences.{as_a_rule, sentences}
use Rattle.reload_law.proofs.laws.rules_are_sentences.Goals as goal

pub returns : goal.returns
returns c = λ old new. (sentences old new, as_a_rule old new)
