use Rattle.laws_of_playlists.proofs.same.tracks_mean_the_same.Goals as goal
use Rattle.laws_of_playlists.proofs.{SameFolders.folders_hold_files, SameWritten.tracks_mean_the_same}

pub returns : goal.returns
returns c = record {
  files = tracks_mean_the_same c.written_masters_are_read.ensures c.read_playlists_mean_the_same.ensures;
  folders = folders_hold_files;
}
