use Rattle.exact_time.proofs.rounder.Rounder.next.Goals as goal
use Rattle.std.proofs.{Common.arith, Math.Nat.mul-le-mul_left}

pub overflow_cast-result : goal.overflow_cast-result
overflow_cast-result c =
    record { fits = omega (arith, c.pass.ensures.bounded 2000000 c.requires.near, mul-le-mul_left 2000000 c.pass.ensures.unit) }

pub returns-clause-bounded : goal.returns-clause-bounded
returns-clause-bounded c = c.pass.ensures.bounded 2000000 c.requires.near

pub returns-clause-call : goal.returns-clause-call
returns-clause-call c = record {
  is_time = c.args.end.positive;
  not_before = c.requires.not_before;
  near = c.requires.near;
  printed_next = c.pass.ensures.printed;
  kept = c.pass.ensures.kept;
}
