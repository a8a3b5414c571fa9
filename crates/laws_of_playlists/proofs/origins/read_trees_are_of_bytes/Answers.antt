use Rattle.laws_of_playlists.proofs.origins.read_trees_are_of_bytes.Goals as goal
use Rattle.laws_of_playlists.proofs.{OriginParts.own_texts_are_addresses, OriginReadings.readings_are_of_bytes}

pub returns : goal.returns
returns c = record { readings = readings_are_of_bytes c.one_reading.ensures; addresses = own_texts_are_addresses }
