use Rattle.std.proofs.Common.{◌≡◌, ◌+◌, ◌-◌, ◌^◌, ◌≤◌, length}
use Rattle.publish_law.specs.Lists.{saturated}
use Rattle.publish_core.specs.Decisions.{segments_after}
use Rattle.publish_core.proofs.next.segments_after.Given as goal

abbrev pub invariant-loop-track : goal.invariant-loop-track
invariant-loop-track l = record {
  told : saturated (l.count + segments_after l.tracks l.changes) ≡ saturated (segments_after l.fn.tracks l.fn.changes);
  fits : l.count ≤ 2 ^ 64 - 1;
}

abbrev pub decreases-loop-track : goal.decreases-loop-track
decreases-loop-track l = length l.tracks
