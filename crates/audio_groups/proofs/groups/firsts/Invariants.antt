use Rattle.std.proofs.Common.{◌≡◌, drop, map, []}
use Rattle.audio_groups.specs.Groups.{firsts, key_of}
use Rattle.audio_groups.proofs.groups.firsts.Given as goal

abbrev pub invariant-loop-rendition : goal.invariant-loop-rendition
invariant-loop-rendition l =
    (firsts l.sameness l.found.items (drop l.rendition-index l.renditions) ≡ firsts l.sameness [] l.renditions)
    × (l.keys.keys ≡ map (key_of l.sameness) l.found.items)
