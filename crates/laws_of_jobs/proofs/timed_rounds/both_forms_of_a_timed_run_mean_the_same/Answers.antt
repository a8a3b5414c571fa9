use Rattle.laws_of_jobs.proofs.TimedReadings as readings
use Rattle.laws_of_jobs.proofs.timed_rounds.both_forms_of_a_timed_run_mean_the_same.Goals as goal

pub returns : goal.returns
returns c =
    readings.runs_alike c.instants_are_denoted.ensures c.read_trees_are_of_bytes.ensures.addresses
    c.read_tracks_can_be_written.ensures.rates c.what_is_read_has_addresses.ensures.tracks c.what_is_read_is_bounded.ensures
    c.what_is_read_has_addresses.ensures.segments c.read_tracks_can_be_written.ensures.told c.offsets_are_one_time.ensures.same
    c.forms_mean_the_same.ensures.live
