use Rattle.presentation.proofs.laws.playlists_can_be_listed.Goals as goal
use Rattle.presentation.proofs.Listable.{playlists_are_listable}

pub returns : goal.returns
returns c = playlists_are_listable
