use Rattle.laws_of_playlists.proofs.Values.{duration_is, map_is, number_is, range_is}
use Rattle.url_parts.proofs.Spellings.{stands_alone}
use Rattle.laws_of_playlists.proofs.media.written_values_are_read.Goals as goal

pub returns : goal.returns
returns c = record {
  numbers = number_is;
  durations = duration_is;
  ranges = range_is;
  maps = λ url part is. map_is url part.address part.address (stands_alone url part.address is.address) part.range is.range;
}
