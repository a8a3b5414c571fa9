use Rattle.std.proofs.Common.{◌≡◌, drop, []}
use Rattle.hls_writer.specs.Variants.{numbers_from}
use Rattle.hls_writer.proofs.variants.choices.Given as goal

abbrev pub invariant-loop-group : goal.invariant-loop-group
invariant-loop-group l = numbers_from l.found.items l.group (drop l.group l.groups) ≡ numbers_from [] 0 l.groups
