use Rattle.live_judge.proofs.track_next.TrackNext.check_rewritten.Given as goal
use Rattle.std.proofs.Common.{◌≡◌, ◌≤◌, ◌+◌, flat_map, length}
use Rattle.presentation.specs.Counting.{sections_of}
use Rattle.presentation.proofs.Counts.{from_on}
use Rattle.live_meaning.specs.Refusals.{rewritten_in}
use Rattle.live_judge.specs.{Blocks.{StandBefore, segments_in}, Coming.{p_of, t_of}, Shown.common_shown}

abbrev pub invariant-loop-section : goal.invariant-loop-section
invariant-loop-section l = record {
  within : l.from ≤ length l.self.track.now.facts.items;
  before : StandBefore (l.self.next.now.place + l.section) (segments_in l.self.track.now) l.from;
  none : flat_map (rewritten_in (common_shown l.self.next.now.standing.now) (p_of l.self.next.now) l.self.index (t_of l.self))
      (sections_of (p_of l.self.next.now))
      ≡ flat_map (rewritten_in (common_shown l.self.next.now.standing.now) (p_of l.self.next.now) l.self.index (t_of l.self))
      (from_on l.section (length (p_of l.self.next.now).sections));
}
