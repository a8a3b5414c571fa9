use Rattle.mpd_presentation.proofs.laws.presentations_mean_their_mpd.Goals as goal
use Rattle.mpd_presentation.proofs.Telling.{presented_are_meant, texts_are_meant}

pub returns : goal.returns
returns c = record { mpd = presented_are_meant; text = texts_are_meant }
