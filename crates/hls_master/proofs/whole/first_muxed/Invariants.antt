use Rattle.hls_master.proofs.whole.first_muxed.Given as goal
use Rattle.std.proofs.Common.{◌≡◌, map, drop}
use Rattle.hls_master.specs.{Masters.{first_place, is_muxed}, SeenTags.variant_seen}

abbrev pub invariant-loop-variant : goal.invariant-loop-variant
invariant-loop-variant l = first_place (is_muxed l.addresses) (map variant_seen l.variants)
    ≡ first_place (is_muxed l.addresses) (map variant_seen (drop l.variant-index l.variants))
