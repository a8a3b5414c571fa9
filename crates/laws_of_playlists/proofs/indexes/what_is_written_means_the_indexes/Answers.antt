use Rattle.laws_of_playlists.proofs.IndexWritten.{written_means}
use Rattle.laws_of_playlists.proofs.indexes.what_is_written_means_the_indexes.Goals as goal

pub returns : goal.returns
returns c =
    let are = c.indexed_parts_can_be_written.ensures in
    written_means are.finished are.writable are.initializations are.parts are.paced c.static_segments_are_in_pace.ensures.short
    c.written_playlists_mean_the_same.ensures
