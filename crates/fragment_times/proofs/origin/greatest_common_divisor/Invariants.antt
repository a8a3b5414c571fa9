use Rattle.std.proofs.Common.{ℕ}
use Rattle.std.specs.Int.{IsGcd}
use Rattle.fragment_times.proofs.origin.greatest_common_divisor.Given as goal

-- what divides both numbers divides the two that are left, and the other way round
abbrev pub invariant-loop-rest : goal.invariant-loop-rest
invariant-loop-rest l = (g : ℕ) → IsGcd l.divisor l.rest g → IsGcd l.fn.one l.fn.other g

abbrev pub decreases-loop-rest : goal.decreases-loop-rest
decreases-loop-rest l = l.rest
