use Rattle.laws_of_playlists.proofs.Items.{finished_are_read, followed_are_read, spelled_are_read}
use Rattle.laws_of_playlists.proofs.media.playlists_are_read_again.Goals as goal

pub returns : goal.returns
returns c = record { finished = finished_are_read; followed = followed_are_read; spelled = spelled_are_read }
