use Rattle.bridge_live.proofs.LiveFrames.{next_counts}
use Rattle.bridge_live.proofs.live_mpd.LiveMpd.take.Goals as goal

pub returns-in-Some-clause-counts : goal.returns-in-Some-clause-counts
returns-in-Some-clause-counts g c =
    rw c.in-Some.is
    (next_counts c.in-Some.channel.session c.next_frame.new.session c.args.frame.now c.next_frame.result c.next_frame.ensures.state)
