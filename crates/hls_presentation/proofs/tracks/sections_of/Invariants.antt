use Rattle.hls_presentation.proofs.tracks.sections_of.Given as goal
use Rattle.std.proofs.Common.{◌≡◌, ◌+◌, ◌-◌, ◌++◌}
use Rattle.std.specs.List.{sum_by}
use Rattle.hls_presentation.specs.{Presenting.sections_from, Sections.{row_length, rows_from, rows_of, section_count}}

abbrev pub invariant-loop-place : goal.invariant-loop-place
invariant-loop-place l = record {
  told : l.sections ++ sections_from l.place l.start (rows_from l.tracks l.place (section_count l.tracks - l.place))
      ≡ sections_from 0 0 (rows_of l.tracks);
  sum : l.start + sum_by row_length (rows_from l.tracks l.place (section_count l.tracks - l.place)) ≡ sum_by row_length (rows_of l.tracks);
}
