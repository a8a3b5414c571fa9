use Rattle.hls_follow.proofs.Available as available
use Rattle.hls_follow.proofs.timed_laws.first_lists_are_available.Goals as goal

pub returns : goal.returns
returns c = available.are_available
