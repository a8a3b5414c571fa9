use Rattle.std.proofs.Common.{◌≡◌, ◌++◌, drop, map}
use Rattle.audio_groups.specs.Families.{in_family}
use Rattle.audio_groups.proofs.families.in_families.Given as goal

abbrev pub invariant-loop-track : goal.invariant-loop-track
invariant-loop-track l = l.found ++ map in_family (drop l.track-index l.tracks) ≡ map in_family l.tracks
