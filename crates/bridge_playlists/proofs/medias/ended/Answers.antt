use Rattle.bridge_playlists.proofs.Ended.{all_counted}
use Rattle.bridge_playlists.proofs.medias.ended.Goals as goal

pub returns-clause-counted : goal.returns-clause-counted
returns-clause-counted c = rw c.in_ok-files.ensures (all_counted c.args.medias c.requires)
