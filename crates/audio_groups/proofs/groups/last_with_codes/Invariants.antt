use Rattle.std.proofs.Common.{◌≡◌, drop, None}
use Rattle.audio_groups.specs.Groups.{is_of_codes, last_of}
use Rattle.audio_groups.proofs.groups.last_with_codes.Given as goal

abbrev pub invariant-loop-other : goal.invariant-loop-other
invariant-loop-other l = last_of (is_of_codes l.key l.set) l.last (drop l.other-index l.renditions)
    ≡ last_of (is_of_codes l.key l.set) None l.renditions
