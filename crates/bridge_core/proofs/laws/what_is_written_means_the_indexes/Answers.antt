use Rattle.bridge_core.proofs.IndexPromises.{written_means}
use Rattle.bridge_core.proofs.laws.what_is_written_means_the_indexes.Goals as goal

pub returns : goal.returns
returns c =
    written_means c.done_is_whole.ensures c.a_verdict_keeps_the_steps.ensures c.folders_hold_their_files.ensures
    c.tracks_mean_the_same.ensures.folders c.indexes_mean_what_they_list.ensures.text
    c.what_is_written_means_the_indexes.ensures c.told_labels_are_fit.ensures c.read_trees_are_of_bytes.ensures.readings
    c.read_trees_are_of_bytes.ensures.addresses
    c.indexed_parts_can_be_written.ensures.few
