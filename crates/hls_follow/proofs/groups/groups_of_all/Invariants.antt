use Rattle.std.proofs.Common.{◌≡◌, map, take}
use Rattle.hls_follow.specs.Groups.{groups_of}
use Rattle.hls_follow.proofs.groups.groups_of_all.Given as goal

abbrev pub invariant-loop-track : goal.invariant-loop-track
invariant-loop-track l = l.groups.items ≡ map groups_of (take l.track-index l.tracks)
