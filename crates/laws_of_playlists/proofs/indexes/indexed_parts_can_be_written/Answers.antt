use Rattle.laws_of_playlists.proofs.IndexSound as sound
use Rattle.laws_of_playlists.proofs.indexes.indexed_parts_can_be_written.Goals as goal

pub returns : goal.returns
returns c = let told = c.indexes_are_told.ensures in record {
  finished = sound.indexed_are_finished;
  writable = sound.indexed_are_writable c.indexed_tracks_are_writable.ensures;
  few = sound.indexed_are_few;
  initializations = sound.initializations_are_located told;
  parts = sound.parts_are_located told;
  paced = sound.indexed_are_in_pace;
}
