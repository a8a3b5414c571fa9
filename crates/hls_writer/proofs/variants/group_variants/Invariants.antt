use Rattle.std.proofs.Common.{◌≡◌, ◌++◌, drop}
use Rattle.hls_writer.specs.Variants.{group_variants}
use Rattle.hls_writer.proofs.variants.group_variants.Given as goal

abbrev pub invariant-loop-group : goal.invariant-loop-group
invariant-loop-group l = l.found.items ++ group_variants l.videos (drop l.group-index l.choices) ≡ group_variants l.videos l.choices
