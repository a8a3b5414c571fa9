use Rattle.std.proofs.Common.{arith}
use Rattle.live_judge.proofs.coming.Next.resets.Goals as goal

pub returns-then-is_reset-clause-few : goal.returns-then-is_reset-clause-few
returns-then-is_reset-clause-few c = omega (arith, c.requires.live.resets, c.requires.live.accepted)

pub returns-clause-few : goal.returns-clause-few
returns-clause-few c = omega (arith, c.requires.live.resets, c.requires.live.accepted)
