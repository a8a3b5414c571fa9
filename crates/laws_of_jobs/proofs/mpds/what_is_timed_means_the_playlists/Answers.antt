use Rattle.laws_of_jobs.proofs.TimedRuns.{written_has_playlists_and_times}
use Rattle.laws_of_jobs.proofs.mpds.what_is_timed_means_the_playlists.Goals as goal

pub returns : goal.returns
returns c =
    written_has_playlists_and_times c.done_is_whole.ensures c.a_verdict_keeps_the_steps.ensures
    c.read_trees_are_of_bytes.ensures.addresses c.read_tracks_can_be_written.ensures.rates c.what_is_read_has_addresses.ensures.tracks
    c.presented_mean_their_files.ensures c.what_is_read_is_bounded.ensures c.what_is_read_has_addresses.ensures.segments
    c.what_is_read_is_silent.ensures c.read_tracks_can_be_written.ensures.order c.read_tracks_can_be_written.ensures.told
    c.timed_texts_mean_their_times.ensures c.timed_presentations_keep_their_files.ensures.files
    c.timed_presentations_keep_their_files.ensures.begin
