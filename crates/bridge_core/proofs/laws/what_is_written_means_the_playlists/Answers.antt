use Rattle.bridge_core.proofs.MpdPromises.{written_mpd_means}
use Rattle.bridge_core.proofs.laws.what_is_written_means_the_playlists.Goals as goal

pub returns : goal.returns
returns c =
    written_mpd_means c.done_is_whole.ensures c.a_verdict_keeps_the_steps.ensures c.read_trees_are_of_bytes.ensures.addresses
    c.read_tracks_can_be_written.ensures.rates
    c.what_is_read_has_addresses.ensures.tracks c.presented_mean_their_files.ensures c.what_is_read_is_bounded.ensures
    c.what_is_read_has_addresses.ensures.segments
    c.written_playlists_mean_the_same.ensures.read
