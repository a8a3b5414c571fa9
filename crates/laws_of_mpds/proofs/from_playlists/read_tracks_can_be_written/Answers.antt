use Rattle.laws_of_mpds.proofs.from_playlists.read_tracks_can_be_written.Goals as goal
use Rattle.laws_of_mpds.proofs.{ReadOrder.read_are_in_order, ReadRates.read_have_rates, ReadTold.read_can_be_told}

pub returns : goal.returns
returns c = record { order = read_are_in_order; told = read_can_be_told; rates = read_have_rates }
