use Rattle.std.proofs.Common.{◌≤◌, ◌+◌, ◌-◌, length}
use Rattle.live_judge.specs.Blocks.{StandBefore, segments_in}
use Rattle.live_judge.proofs.track.LiveTrack.end_of.Given as goal

abbrev pub invariant-loop-end : goal.invariant-loop-end
invariant-loop-end l = record {
  within : l.end ≤ length l.self.facts.items;
  before : StandBefore (l.place + 1) (segments_in l.self) l.end;
}

abbrev pub decreases-loop-end : goal.decreases-loop-end
decreases-loop-end l = length l.self.facts.items - l.end
