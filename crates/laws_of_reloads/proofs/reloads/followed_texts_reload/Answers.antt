use Rattle.laws_of_reloads.proofs.Texts.{followed_texts_reload, read_texts_reload, taken_texts_reload}
use Rattle.laws_of_reloads.proofs.reloads.followed_texts_reload.Goals as goal

pub returns : goal.returns
returns c =
    let told = c.followed_texts_are_read.ensures.told in let taken = c.followed_texts_are_read.ensures.taken in
    let reload = c.reloads_are_lawful.ensures in
    let rules = c.rules_are_sentences.ensures in let accepted = c.histories_go_on.ensures.accepted in
    record {
      texts = followed_texts_reload told taken reload rules accepted;
      read = read_texts_reload told taken reload rules accepted;
      taken = taken_texts_reload told taken reload rules accepted;
    }
