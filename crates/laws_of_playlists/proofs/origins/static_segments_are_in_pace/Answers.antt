use Rattle.laws_of_playlists.proofs.origins.static_segments_are_in_pace.Goals as goal
use Rattle.laws_of_playlists.proofs.{OriginListed.static_are_in_pace, OriginPace.are_short_in_pace}

pub returns : goal.returns
returns c = let ends = c.closed_ends.ensures in record {
  paced = static_are_in_pace ends.timelines ends.durations ends.reached c.counted_segments_are_in_pace.ensures;
  short = are_short_in_pace;
}
