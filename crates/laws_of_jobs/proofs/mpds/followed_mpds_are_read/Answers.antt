use Rattle.laws_of_jobs.proofs.Followed.{are_read, can_be_read}
use Rattle.laws_of_jobs.proofs.mpds.followed_mpds_are_read.Goals as goal

pub returns : goal.returns
returns c = record {
  readable = can_be_read c.read_tracks_can_be_written.ensures.told;
  said = are_read c.live_texts_are_read.ensures c.read_tracks_can_be_written.ensures.told;
}
