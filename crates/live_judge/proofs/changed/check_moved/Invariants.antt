use Rattle.std.proofs.Common.{◌≡◌, length}
use Rattle.std.specs.Prelude.{flat_map}
use Rattle.presentation.proofs.Counts.{from_on}
use Rattle.live_meaning.specs.Refusals.{moved_told}
use Rattle.live_judge.specs.{Changed.moved_at, Shown.common_shown}
use Rattle.live_judge.proofs.changed.check_moved.Given as goal

abbrev pub invariant-loop-section : goal.invariant-loop-section
invariant-loop-section l = moved_told (common_shown l.standing) l.force
    ≡ flat_map (moved_at l.standing.known l.force l.place) (from_on l.section (length l.force.sections))
