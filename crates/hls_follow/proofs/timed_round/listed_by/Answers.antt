use Rattle.hls_follow.proofs.timed_round.listed_by.Goals as goal
use Rattle.std.proofs.Common.{arith, map}
use Rattle.hls_presentation.specs.Views.{source_of}
use Rattle.hls_follow.proofs.Placing.{target_small}

pub returns-clause-near : goal.returns-clause-near
returns-clause-near c =
    omega (arith, c.last_end.ensures.near, c.target_of.ensures, c.from.ensures, target_small (map source_of c.args.kept.now) c.requires)
