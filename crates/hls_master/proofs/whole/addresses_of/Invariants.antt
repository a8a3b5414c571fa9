use Rattle.hls_master.proofs.whole.addresses_of.Given as goal
use Rattle.std.proofs.Common.{map, take}
use Rattle.hls_master.specs.{SeenTags.rendition_seen, Texts.SameTexts}

abbrev pub invariant-loop-rendition : goal.invariant-loop-rendition
invariant-loop-rendition l = SameTexts l.addresses (map (λ rendition. rendition.address)
    (map rendition_seen (take l.rendition-index l.renditions)))
