use Rattle.bridge_jobs.proofs.Sizes.{frames_left, rounds_left, sizes_of_frames, sizes_of_rounds}
use Rattle.bridge_jobs.proofs.laws.sizes_are_of_frames.Goals as goal

pub returns-clause-frames : goal.returns-clause-frames
returns-clause-frames c = sizes_of_frames

pub returns-clause-rounds : goal.returns-clause-rounds
returns-clause-rounds c = sizes_of_rounds

pub returns-clause-frames_left : goal.returns-clause-frames_left
returns-clause-frames_left c = frames_left c.frames_follow.ensures

pub returns-clause-rounds_left : goal.returns-clause-rounds_left
returns-clause-rounds_left c = rounds_left c.rounds_follow.ensures
