use Rattle.hls_media.proofs.Told.{playlists_are_told}
use Rattle.hls_media.proofs.laws.playlists_are_told_by_their_lines.Goals as goal

pub returns : goal.returns
returns c = playlists_are_told
