use Rattle.hls_master.proofs.whole.first_unknown.Given as goal
use Rattle.std.proofs.Common.{◌≡◌, map, drop}
use Rattle.hls_master.specs.{Masters.{first_place, names_unknown_group}, SeenTags.variant_seen}

abbrev pub invariant-loop-variant : goal.invariant-loop-variant
invariant-loop-variant l = first_place (names_unknown_group l.audio l.text) (map variant_seen l.variants)
    ≡ first_place (names_unknown_group l.audio l.text) (map variant_seen (drop l.variant-index l.variants))
