use Rattle.std.proofs.Common.{◌≡◌, ◌++◌, drop, map}
use Rattle.hls_writer.specs.Variants.{video_variant}
use Rattle.hls_writer.proofs.variants.add_variants.Given as goal

abbrev pub invariant-loop-group : goal.invariant-loop-group
invariant-loop-group l = l.found.items ++ map (video_variant l.place) (drop l.group-index l.choices)
    ≡ l.initial.found.items ++ map (video_variant l.place) l.choices
