use Rattle.laws_of_taken_playlists.proofs.Whole.{written_are_taken}
use Rattle.laws_of_taken_playlists.proofs.playlists.written_playlists_are_taken.Goals as goal

pub returns : goal.returns
returns c = written_are_taken
