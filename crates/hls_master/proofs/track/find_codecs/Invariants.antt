use Rattle.hls_master.proofs.track.find_codecs.Given as goal
use Rattle.std.proofs.Common.{◌≡◌, map, drop}
use Rattle.hls_master.specs.{SeenTags.variant_seen, Tracks.group_codecs}

abbrev pub invariant-loop-variant : goal.invariant-loop-variant
invariant-loop-variant l = group_codecs l.kind l.group (map variant_seen l.variants)
    ≡ group_codecs l.kind l.group (map variant_seen (drop l.variant-index l.variants))
