use Rattle.laws_of_jobs.proofs.RoundReadings.{playlists_are_meant}
use Rattle.laws_of_jobs.proofs.rounds.last_playlists_are_meant.Goals as goal

pub returns : goal.returns
returns c =
    playlists_are_meant c.instants_are_denoted.ensures c.read_trees_are_of_bytes.ensures.addresses
    c.read_tracks_can_be_written.ensures.rates c.what_is_read_has_addresses.ensures.tracks c.what_is_read_is_bounded.ensures
    c.what_is_read_has_addresses.ensures.segments c.read_tracks_can_be_written.ensures.told c.runs_go_on.ensures
    c.timed_contents_mean_the_same.ensures c.last_playlists_are_listed.ensures
