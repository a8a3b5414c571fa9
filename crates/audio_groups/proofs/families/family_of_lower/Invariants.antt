use Rattle.std.proofs.Common.{◌≡◌}
use Rattle.std.specs.{String.string_bytes, List.flat_map}
use Rattle.audio_groups.specs.Families.{family_part}
use Rattle.audio_groups.proofs.families.family_of_lower.Given as goal

abbrev pub invariant-loop-code : goal.invariant-loop-code
invariant-loop-code l = string_bytes l.family ≡ flat_map (λ code. family_part code.now) l.yielded
