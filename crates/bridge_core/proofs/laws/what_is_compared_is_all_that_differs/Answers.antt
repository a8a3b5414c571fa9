use Rattle.bridge_core.proofs.laws.what_is_compared_is_all_that_differs.Goals as goal
use Rattle.bridge_core.proofs.ComparePromises.{compared_tells_all}

pub returns : goal.returns
returns c =
    compared_tells_all c.presentations_mean_their_mpd.ensures.text c.read_tracks_can_be_written.ensures.rates
    c.presented_mean_their_files.ensures c.listed_mean_their_files.ensures c.the_same_deviate_alike.ensures.alike
    c.the_same_deviate_alike.ensures.greatest
