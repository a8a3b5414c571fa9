use Rattle.laws_of_playlists.proofs.PlayerCodes.{variants_tell_their_codes}
use Rattle.laws_of_playlists.proofs.players.variants_tell_their_codes.Goals as goal

pub returns : goal.returns
returns c = variants_tell_their_codes
