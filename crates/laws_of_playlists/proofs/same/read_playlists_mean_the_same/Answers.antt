use Rattle.laws_of_playlists.proofs.SameMeanings.{read_mean_the_same}
use Rattle.laws_of_playlists.proofs.same.read_playlists_mean_the_same.Goals as goal

pub returns : goal.returns
returns c = read_mean_the_same c.sums_are_floors.ensures.exact c.presentations_mean_what_they_list.ensures.verified
    c.sections_rise.ensures.those
