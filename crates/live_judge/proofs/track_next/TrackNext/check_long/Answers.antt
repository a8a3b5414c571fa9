use Rattle.live_judge.proofs.track_next.TrackNext.check_long.Goals as goal
use Rattle.live_judge.proofs.Totals.{long_there}

pub loop-section-init : goal.loop-section-init
loop-section-init c = long_there c.args.self.now c.requires.next
