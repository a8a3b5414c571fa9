use Rattle.laws_of_playlists.proofs.SameWritten.{written_mean_the_same}
use Rattle.laws_of_playlists.proofs.same.written_playlists_mean_the_same.Goals as goal

pub returns : goal.returns
returns c = written_mean_the_same c.tracks_mean_the_same.ensures.files c.track_playlists_are_read_again.ensures
