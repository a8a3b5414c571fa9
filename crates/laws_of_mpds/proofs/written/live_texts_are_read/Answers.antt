use Rattle.laws_of_mpds.proofs.Live.{live_texts}
use Rattle.laws_of_mpds.proofs.written.live_texts_are_read.Goals as goal

pub returns : goal.returns
returns c =
    live_texts c.printed_trees_are_read.ensures c.durations_are_read_again.ensures c.instants_are_read_again.ensures
