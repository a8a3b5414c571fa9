use Rattle.std.proofs.Common.{◌≡◌, true, take}
use Rattle.std.specs.List.{list_all}
use Rattle.hls_presentation.specs.Sections.{are_alike}
use Rattle.hls_presentation.proofs.groups.are_all_alike.Given as goal

abbrev pub invariant-loop-track : goal.invariant-loop-track
invariant-loop-track l = list_all (are_alike l.first) (take l.track-index l.rest) ≡ true
