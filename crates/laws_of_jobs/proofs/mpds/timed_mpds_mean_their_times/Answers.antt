use Rattle.laws_of_jobs.proofs.Timed.{are_read, can_be_read, mean_their_times}
use Rattle.laws_of_jobs.proofs.mpds.timed_mpds_mean_their_times.Goals as goal

pub returns : goal.returns
returns c =
    let quiet = c.what_is_read_is_silent.ensures in
    let order = c.read_tracks_can_be_written.ensures.order in
    let told = c.read_tracks_can_be_written.ensures.told in
    record {
      readable = can_be_read quiet;
      meaning = mean_their_times quiet order told c.timed_texts_mean_their_times.ensures;
      said = are_read quiet order told c.timed_texts_are_read.ensures;
    }
