use Rattle.std.proofs.Common.{◌≡◌, ◌+◌, drop}
use Rattle.std.specs.List.{position_or_len}
use Rattle.presentation.specs.Presented.{looked_at}
use Rattle.live_judge.specs.Removal.{is_still_available}
use Rattle.live_judge.proofs.removal.unavailable.Given as goal

abbrev pub invariant-loop-place : goal.invariant-loop-place
invariant-loop-place l =
    l.place + position_or_len (is_still_available (looked_at l.now l.force)) (drop l.place l.track.facts.items)
    ≡ position_or_len (is_still_available (looked_at l.now l.force)) l.track.facts.items
