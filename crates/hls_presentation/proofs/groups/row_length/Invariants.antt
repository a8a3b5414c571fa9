use Rattle.std.proofs.Common.{◌≡◌, drop, max}
use Rattle.hls_presentation.specs.Sections.{row_at, row_length}
use Rattle.hls_presentation.proofs.groups.row_length.Given as goal

abbrev pub invariant-loop-track : goal.invariant-loop-track
invariant-loop-track l = max l.longest (row_length (row_at (drop l.track-index l.tracks) l.place)) ≡ row_length (row_at l.tracks l.place)
