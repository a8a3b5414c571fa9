use Rattle.live_meaning.proofs.Playlists.{never_empty, numbers_stay_small}
use Rattle.live_meaning.proofs.laws.playlists_are_never_empty.Goals as goal

pub returns : goal.returns
returns c = let its = c.presentations_show_their_mpd.ensures in
    record { some = never_empty its.few its.followed; small = numbers_stay_small its.few its.followed }
