use Rattle.std.proofs.Common.{◌≡◌, ◌+◌, ◌*◌, ◌^◌, ◌≤◌, drop, sum_by}
use Rattle.hls_media.specs.declared.media.MediaSegment.{MediaSegment}
use Rattle.reload_law.proofs.unlawful.nanos_of.Given as goal

abbrev pub invariant-loop-segment : goal.invariant-loop-segment
invariant-loop-segment l = record {
  sum : l.nanos + sum_by (λ (x : MediaSegment). x.duration) (drop l.segment-index l.segments)
      ≡ sum_by (λ (x : MediaSegment). x.duration) l.segments;
  bound : l.nanos ≤ l.segment-index * 2 ^ 64;
}
