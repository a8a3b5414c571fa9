use Rattle.live_session.proofs.longest.longest_in.Given as goal
use Rattle.std.{proofs.Common.{◌≡◌, ◌^◌, ◌-◌, max, map, length}, specs.List.range_with_len}
use Rattle.presentation.{specs.Presented.looked_at, specs.Verifying.{greatest, longest_of}}
use Rattle.live_meaning.specs.Histories.{longest_in}

abbrev pub invariant-loop-track : goal.invariant-loop-track
invariant-loop-track l = let p = looked_at l.fn.now l.fn.presentation in
    longest_in (10 ^ l.fn.digits) p
    ≡ max l.longest (greatest (map (longest_of p (10 ^ l.fn.digits)) (range_with_len l.track (length l.fn.presentation.tracks - l.track))))
