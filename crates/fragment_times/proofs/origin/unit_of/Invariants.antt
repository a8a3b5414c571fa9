use Rattle.std.proofs.Common.{ℕ, drop}
use Rattle.fragment_times.proofs.Divisors.{IsCommon}
use Rattle.fragment_times.proofs.origin.unit_of.Given as goal

-- the divisor of the unit so far and of the timescales that are left is that of all
abbrev pub invariant-loop-track : goal.invariant-loop-track
invariant-loop-track l = (g : ℕ) → IsCommon l.unit (drop l.track-index l.tracks) g → IsCommon 0 l.tracks g
