use Rattle.live_judge.proofs.track_next.TrackNext.check_rewritten.Goals as goal
use Rattle.live_judge.proofs.Contents.{sound_there}

pub latest-block-requires-clause-ordered : goal.latest-block-requires-clause-ordered
latest-block-requires-clause-ordered c = (sound_there c.args.self.now c.requires.next).ordered
