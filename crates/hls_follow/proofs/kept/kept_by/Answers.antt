use Rattle.hls_follow.proofs.kept.kept_by.Goals as goal
use Rattle.std.proofs.{Common.arith, lemmas.Grind.common_steps}
use Rattle.hls_follow.proofs.Keeping.{kept_none}

pub returns : goal.returns
returns c = grind (arith, common_steps, kept_none)
