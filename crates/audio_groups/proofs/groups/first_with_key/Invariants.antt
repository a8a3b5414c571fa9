use Rattle.std.proofs.Common.{◌≡◌, drop}
use Rattle.audio_groups.specs.Groups.{first_place, is_of_key}
use Rattle.audio_groups.proofs.groups.first_with_key.Given as goal

abbrev pub invariant-loop-other : goal.invariant-loop-other
invariant-loop-other l = first_place (is_of_key l.key l.set) (drop l.other-index l.renditions)
    ≡ first_place (is_of_key l.key l.set) l.renditions
