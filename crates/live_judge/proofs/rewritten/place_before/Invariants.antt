use Rattle.std.proofs.Common.{◌≡◌, ◌≤◌, length}
use Rattle.timeline.specs.Listed.{listed_from}
use Rattle.live_judge.proofs.rewritten.place_before.Given as goal

abbrev pub invariant-loop-count : goal.invariant-loop-count
invariant-loop-count l = record {
  counted : l.count ≡ length (listed_from l.cursor l.runs l.window);
  few : l.count ≤ l.wanted;
}

abbrev pub decreases-loop-count : goal.decreases-loop-count
decreases-loop-count l = l.cursor
