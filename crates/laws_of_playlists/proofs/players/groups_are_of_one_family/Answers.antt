use Rattle.laws_of_playlists.proofs.PlayerFamilies.{groups_are_of_one_family}
use Rattle.laws_of_playlists.proofs.players.groups_are_of_one_family.Goals as goal

pub returns : goal.returns
returns c = groups_are_of_one_family c.groups_are_pure.ensures
