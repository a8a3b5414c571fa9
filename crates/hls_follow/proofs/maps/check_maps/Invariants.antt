use Rattle.std.proofs.Common.{◌≡◌, drop, None}
use Rattle.hls_follow.specs.Maps.{judged_maps}
use Rattle.hls_follow.proofs.maps.check_maps.Given as goal

abbrev pub invariant-loop-segment : goal.invariant-loop-segment
invariant-loop-segment l =
    judged_maps l.periods l.track l.former (drop l.segment-index l.segments) ≡ judged_maps l.periods l.track None l.segments
