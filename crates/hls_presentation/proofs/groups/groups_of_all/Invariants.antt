use Rattle.hls_presentation.proofs.groups.groups_of_all.Given as goal
use Rattle.std.proofs.Common.{◌≡◌, map, take}
use Rattle.hls_presentation.specs.{Sections.groups_in, Views.source_of}

abbrev pub invariant-loop-track : goal.invariant-loop-track
invariant-loop-track l = l.groups.items ≡ map groups_in (map source_of (take l.track-index l.tracks))
