use Rattle.hls_presentation.proofs.Counted.{playlists_are_counted}
use Rattle.hls_presentation.proofs.laws.playlists_are_counted.Goals as goal

pub returns : goal.returns
returns c = playlists_are_counted
