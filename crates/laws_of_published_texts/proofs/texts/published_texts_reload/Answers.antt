use Rattle.laws_of_published_texts.proofs.Written.{published_texts_reload}
use Rattle.laws_of_published_texts.proofs.texts.published_texts_reload.Goals as goal

pub returns : goal.returns
returns c = published_texts_reload c.read_texts_are_told.ensures.own c.published_texts_are_read.ensures c.published_lists_reload.ensures
    c.rules_are_sentences.ensures
