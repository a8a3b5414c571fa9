use Rattle.hls_presentation.proofs.contents.Ticks.add_row.Given as goal
use Rattle.std.proofs.Common.{◌≡◌, ◌<◌, ◌^◌, drop}
use Rattle.hls_presentation.specs.{Presenting.{behind, content_of, gathered}, Sections.{row_at, row_length}}

abbrev pub invariant-loop-track : goal.invariant-loop-track
invariant-loop-track l = record {
  short : row_length (row_at (drop l.track-index l.tracks) l.place) < 2 ^ 63;
  told : behind l.contents (gathered (content_of l.self.nanos) (row_at (drop l.track-index l.tracks) l.place))
      ≡ behind l.fn.contents (gathered (content_of l.self.nanos) (row_at l.tracks l.place));
}
