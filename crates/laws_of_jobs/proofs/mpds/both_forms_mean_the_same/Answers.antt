use Rattle.laws_of_jobs.proofs.Forms.{followed_alike, read_alike, times_alike}
use Rattle.laws_of_jobs.proofs.mpds.both_forms_mean_the_same.Goals as goal

pub returns : goal.returns
returns c =
    let forms = c.forms_mean_the_same.ensures in
    let read = c.read_tracks_can_be_written.ensures in
    record {
      playlists = read_alike c.written_playlists_mean_the_same.ensures.read;
      timed = times_alike c.what_is_read_is_silent.ensures read.order read.told forms.timed;
      followed = followed_alike c.followed_mpds_are_read.ensures.readable forms.live;
    }
