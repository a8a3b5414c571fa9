use Rattle.std.proofs.Common.{◌≡◌}
use Rattle.differences.specs.Contents.{track_noted}
use Rattle.differences.proofs.contents.Both.add_track.Given as goal

-- what is found in the sections before this one is noted
abbrev pub invariant-loop-place : goal.invariant-loop-place
invariant-loop-place g l = track_noted l.self l.track 0 l.initial.found ≡ track_noted l.self l.track l.place l.found
