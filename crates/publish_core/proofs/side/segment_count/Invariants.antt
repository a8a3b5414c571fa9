use Rattle.std.proofs.Common.{◌≡◌, take}
use Rattle.publish_law.specs.Lists.{saturated}
use Rattle.publish_core.specs.Sides.{segments_of}
use Rattle.publish_core.proofs.side.segment_count.Given as goal

abbrev pub invariant-loop-track : goal.invariant-loop-track
invariant-loop-track l = l.count ≡ saturated (segments_of (take l.track-index l.tracks))
