use Rattle.laws_of_playlists.proofs.SameStatic.{written_means_the_same}
use Rattle.laws_of_playlists.proofs.same.written_means_the_same.Goals as goal

pub returns : goal.returns
returns c = written_means_the_same
    c.static_mpds_are_finished.ensures c.static_tracks_are_writable.ensures.writable
    c.static_parts_are_located.ensures.initializations c.static_parts_are_located.ensures.segments
    c.static_segments_are_in_pace.ensures.paced c.static_segments_are_in_pace.ensures.short
    c.written_playlists_mean_the_same.ensures
