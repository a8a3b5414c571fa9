use Rattle.live_session.proofs.longest.longest_of.Given as goal
use Rattle.std.{proofs.Common.{◌≡◌, ◌^◌, ◌-◌, max, map, length}, specs.List.range_with_len}
use Rattle.presentation.{specs.Presented.looked_at, specs.Verifying.{greatest, longest_at, longest_of}}

abbrev pub invariant-loop-section : goal.invariant-loop-section
invariant-loop-section l = let p = looked_at l.fn.now l.fn.presentation in
    longest_of p (10 ^ l.fn.digits) l.fn.track
    ≡ max l.longest
    (greatest (map (longest_at p (10 ^ l.fn.digits) l.fn.track) (range_with_len l.section (length l.fn.presentation.sections - l.section))))
