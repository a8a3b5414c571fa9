use Rattle.live_judge.proofs.track_next.TrackNext.check_long.Given as goal
use Rattle.std.proofs.Common.{◌≡◌, length}
use Rattle.std.specs.Prelude.{flat_map}
use Rattle.presentation.proofs.Counts.{from_on}
use Rattle.live_meaning.specs.{Updates.unit_of, States.new_durations}
use Rattle.live_judge.specs.{Coming.{c_of, p_of, t_of}, Long.longs_told}
use Rattle.live_judge.proofs.Totals.{long_in}

abbrev pub invariant-loop-section : goal.invariant-loop-section
invariant-loop-section l = longs_told (unit_of (c_of l.self).terms) (c_of l.self).target (new_durations (c_of l.self) l.self.index
    (t_of l.self))
    ≡ flat_map (long_in l.self) (from_on l.section (length (p_of l.self.next.now).sections))
