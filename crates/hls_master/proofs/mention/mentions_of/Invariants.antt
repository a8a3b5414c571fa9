use Rattle.hls_master.proofs.mention.mentions_of.Given as goal
use Rattle.std.proofs.Common.{◌≡◌, ◌++◌, map, take}
use Rattle.hls_master.specs.{SeenTags.{rendition_seen, variant_seen}, SeenTracks.mention_seen, Tracks.{by_rendition, by_variant}}

abbrev pub invariant-loop-rendition : goal.invariant-loop-rendition
invariant-loop-rendition l = map mention_seen l.mentions.items ≡ map by_rendition (map rendition_seen (take l.rendition-index l.renditions))

abbrev pub invariant-loop-variant : goal.invariant-loop-variant
invariant-loop-variant l = map mention_seen l.mentions.items ≡ map by_rendition (map rendition_seen l.renditions)
    ++ map by_variant (map variant_seen (take l.variant-index l.variants))
