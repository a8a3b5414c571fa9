use Rattle.std.proofs.Common.{◌≡◌, ◌++◌, drop, map}
use Rattle.audio_groups.specs.Groups.{member_of}
use Rattle.audio_groups.proofs.groups.group_of.Given as goal

abbrev pub invariant-loop-set : goal.invariant-loop-set
invariant-loop-set l = l.group ++ map (member_of l.filling l.renditions l.key) (drop l.set-index l.sets) ≡ map (member_of l.filling l.renditions l.key) l.sets
