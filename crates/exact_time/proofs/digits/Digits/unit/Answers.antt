use Rattle.exact_time.proofs.digits.Digits.unit.Goals as goal
use Rattle.std.proofs.{Common.lit≤, Math.Nat.pow-le-pow_right}

pub returns-clause-low : goal.returns-clause-low
returns-clause-low c = rw (c.pow.ensures, c.from.ensures) (pow-le-pow_right {n = 10} (lit≤ tt) c.self.invariant.0)
