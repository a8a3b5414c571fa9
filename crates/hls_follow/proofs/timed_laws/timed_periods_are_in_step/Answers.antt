use Rattle.hls_follow.proofs.InStep as steps
use Rattle.hls_follow.proofs.timed_laws.timed_periods_are_in_step.Goals as goal

pub returns : goal.returns
returns c = steps.periods_are_in_step c.offsets_are_one_time.ensures.same
