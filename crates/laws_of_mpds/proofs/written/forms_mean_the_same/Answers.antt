use Rattle.laws_of_mpds.proofs.FormsMean.{live_forms_mean, texts_alike, timed_texts_alike}
use Rattle.laws_of_mpds.proofs.written.forms_mean_the_same.Goals as goal

pub returns : goal.returns
returns c = record {
  texts = texts_alike c.written_texts_mean_the_same.ensures;
  timed = timed_texts_alike c.timed_texts_mean_their_times.ensures;
  live = live_forms_mean c.templates_name.ensures c.literals_name.ensures c.printed_trees_are_read.ensures
      c.durations_are_read_again.ensures c.instants_are_read_again.ensures;
}
