use Rattle.laws_of_jobs.proofs.RoundReadings.{runs_are_read}
use Rattle.laws_of_jobs.proofs.rounds.followed_runs_are_read.Goals as goal

pub returns : goal.returns
returns c =
    runs_are_read c.instants_are_denoted.ensures c.read_trees_are_of_bytes.ensures.addresses
    c.read_tracks_can_be_written.ensures.rates c.what_is_read_has_addresses.ensures.tracks c.what_is_read_is_bounded.ensures
    c.what_is_read_has_addresses.ensures.segments c.followed_mpds_are_read.ensures.said
