use Rattle.std.proofs.Common.{◌≡◌, drop, []}
use Rattle.hls_writer.specs.Variants.{sound_variants}
use Rattle.hls_writer.proofs.variants.sound_variants.Given as goal

abbrev pub invariant-loop-group : goal.invariant-loop-group
invariant-loop-group l = sound_variants l.found.items l.group (drop l.group l.groups) ≡ sound_variants [] 0 l.groups
