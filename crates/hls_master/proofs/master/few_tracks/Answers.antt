use Rattle.hls_master.proofs.master.few_tracks.Goals as goal
use Rattle.std.proofs.Common.{map}
use Rattle.hls_master.specs.{SeenMentions.mentions_seen, SeenTracks.mention_seen}
use Rattle.hls_master.proofs.Wholes.{few_are, too_many}

pub returns-in_ok-read_tracks-in-Some : goal.returns-in_ok-read_tracks-in-Some
returns-in_ok-read_tracks-in-Some c =
    few_are c.args.end (mentions_seen c.args.mentions.now) (map mention_seen c.in-Some.firsts.items) _
    (rw c.in-Some.is at c.in_ok-firsts.ensures)
    (rw (c.as_slice.ensures.value, c.as_slice-in-Some.ensures.value) at c.in_ok-read_tracks-in-Some.ensures)

pub returns-in-None : goal.returns-in-None
returns-in-None c = too_many c.args.end (mentions_seen c.args.mentions.now) (rw c.in-None.is at c.in_ok-firsts.ensures)
