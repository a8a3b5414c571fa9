use Rattle.live_session.proofs.begin.count_of.Given as goal
use Rattle.std.proofs.Common.{◌≡◌, ◌≤◌, ◌+◌, ◌-◌, ◌*◌, ◌^◌, length, flat_map}
use Rattle.presentation.{specs.Presented.listed_at, proofs.Counts.from_on}
use Rattle.live_session.proofs.Beginning.{many}

abbrev pub invariant-loop-section : goal.invariant-loop-section
invariant-loop-section l = record {
  left : l.count + length (flat_map (λ s. listed_at l.fn.opened s l.fn.track) (from_on l.section (length l.fn.opened.sections)))
      ≡ many l.fn.opened l.fn.track;
  fits : l.count ≤ l.section * (2 ^ 64 - 1);
}
