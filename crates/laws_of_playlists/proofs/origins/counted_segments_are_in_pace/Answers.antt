use Rattle.laws_of_playlists.proofs.OriginListed.{are_in_pace}
use Rattle.laws_of_playlists.proofs.origins.counted_segments_are_in_pace.Goals as goal

pub returns : goal.returns
returns c = are_in_pace
