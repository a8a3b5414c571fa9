use Rattle.std.proofs.Common.{length}
use Rattle.std.specs.Prelude.{flat_map}
use Rattle.presentation.proofs.Counts.{from_on}
use Rattle.live_meaning.specs.States.{new_durations}
use Rattle.live_judge.specs.Coming.{c_of, p_of, t_of}
use Rattle.live_judge.proofs.Totals.{IsSoFar, durs}
use Rattle.live_judge.proofs.track_next.TrackNext.total.Given as goal

abbrev pub invariant-loop-section : goal.invariant-loop-section
invariant-loop-section l = IsSoFar l.total (flat_map (durs l.self) (from_on l.section (length (p_of l.self.next.now).sections)))
    (new_durations (c_of l.self) l.self.index (t_of l.self))
