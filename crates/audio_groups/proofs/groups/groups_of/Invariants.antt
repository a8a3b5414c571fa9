use Rattle.std.proofs.Common.{◌≡◌, ◌++◌, drop, map}
use Rattle.audio_groups.specs.Groups.{group_for}
use Rattle.audio_groups.proofs.groups.groups_of.Given as goal

abbrev pub invariant-loop-key : goal.invariant-loop-key
invariant-loop-key l = l.groups ++ map (group_for l.filling l.renditions.items l.sets.items) (drop l.key-index l.key-items)
    ≡ map (group_for l.filling l.renditions.items l.sets.items) l.key-items
