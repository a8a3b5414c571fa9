use Rattle.std.proofs.Common.{◌≡◌, ◌++◌, length, map}
use Rattle.live_meaning.specs.Known.{known_at}
use Rattle.presentation.proofs.Counts.{from_on}
use Rattle.live_judge.specs.Known.{known_shown}
use Rattle.live_judge.proofs.known.periods_from.Given as goal

abbrev pub invariant-loop-at : goal.invariant-loop-at
invariant-loop-at l =
    map known_shown l.new.items ++ map (known_at l.force) (from_on l.at (length l.force.sections))
    ≡ map (known_at l.force) (from_on l.fn.section (length l.force.sections))
