use Rattle.live_judge.proofs.track_next.TrackNext.new_count.Given as goal
use Rattle.std.proofs.Common.{◌≡◌, ◌+◌, ◌≤◌, ◌*◌, ◌^◌, length}
use Rattle.std.specs.Prelude.{sum_by}
use Rattle.presentation.proofs.Counts.{from_on}
use Rattle.live_meaning.specs.States.{new_of}
use Rattle.live_judge.specs.Coming.{c_of, p_of, t_of}
use Rattle.live_judge.proofs.Counts.{count_in}

abbrev pub invariant-loop-section : goal.invariant-loop-section
invariant-loop-section l = record {
  summed : l.count + sum_by (count_in l.self) (from_on l.section (length (p_of l.self.next.now).sections))
      ≡ length (new_of (c_of l.self) l.self.index (t_of l.self));
  bound : l.count ≤ l.section * 2 ^ 64;
}
