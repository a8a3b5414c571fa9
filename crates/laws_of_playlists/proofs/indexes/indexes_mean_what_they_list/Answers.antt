use Rattle.laws_of_playlists.proofs.IndexMeant.{indexed_are_meant, indexed_texts_are_meant}
use Rattle.laws_of_playlists.proofs.indexes.indexes_mean_what_they_list.Goals as goal

pub returns : goal.returns
returns c = record { mpd = indexed_are_meant; text = indexed_texts_are_meant }
