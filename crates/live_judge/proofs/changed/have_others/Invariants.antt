use Rattle.std.proofs.Common.{◌≡◌, length}
use Rattle.std.specs.List.{list_any}
use Rattle.presentation.proofs.Counts.{from_on}
use Rattle.presentation.specs.Counting.{sections_of}
use Rattle.live_meaning.specs.Refusals.{differs_at}
use Rattle.live_judge.specs.Shown.{common_shown}
use Rattle.live_judge.proofs.changed.have_others.Given as goal

abbrev pub invariant-loop-section : goal.invariant-loop-section
invariant-loop-section l =
    list_any (differs_at (common_shown l.standing) l.force) (from_on l.section (length l.force.sections))
    ≡ list_any (differs_at (common_shown l.standing) l.force) (sections_of l.force)
