use Rattle.bridge_core.proofs.laws.what_is_written_means_the_mpd.Goals as goal
use Rattle.bridge_core.proofs.Promises.{written_means}

pub returns : goal.returns
returns c =
    written_means c.folders_hold_their_files.ensures c.tracks_mean_the_same.ensures.folders
    c.presentations_mean_their_mpd.ensures.text c.written_means_the_same.ensures c.first_files_mean_the_same.ensures
    c.told_labels_are_fit.ensures
    c.read_trees_are_of_bytes.ensures.readings c.read_trees_are_of_bytes.ensures.addresses c.tracks_are_writable.ensures.few
    c.done_is_whole.ensures c.a_verdict_keeps_the_steps.ensures
