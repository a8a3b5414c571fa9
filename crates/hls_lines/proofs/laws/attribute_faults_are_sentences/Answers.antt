use Rattle.hls_lines.proofs.Grammar.{attributes_are_told, doubles_are_refused, other_texts_are_refused}
use Rattle.hls_lines.proofs.laws.attribute_faults_are_sentences.Goals as goal

pub returns : goal.returns
returns c = record { told = attributes_are_told; refused = other_texts_are_refused; double = doubles_are_refused }
