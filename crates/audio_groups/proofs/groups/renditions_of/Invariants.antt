use Rattle.std.proofs.Common.{◌≡◌, drop, []}
use Rattle.audio_groups.specs.Groups.{renditions_from}
use Rattle.audio_groups.proofs.groups.renditions_of.Given as goal

abbrev pub invariant-loop-place : goal.invariant-loop-place
invariant-loop-place l = renditions_from l.tracks l.renditions.items l.place (drop l.place l.tracks)
    ≡ renditions_from l.tracks [] 0 l.tracks
