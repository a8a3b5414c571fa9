use Rattle.fragment_times.proofs.laws.tracks_in_step_begin_at_their_offsets.Goals as goal
use Rattle.fragment_times.proofs.Origins.{alone_is_first, together_are_first}

pub returns : goal.returns
returns c = record { alone = alone_is_first; together = together_are_first }
