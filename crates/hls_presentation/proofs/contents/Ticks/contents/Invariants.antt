use Rattle.hls_presentation.proofs.contents.Ticks.contents.Given as goal
use Rattle.std.proofs.Common.{◌≡◌, ◌-◌, false}
use Rattle.std.specs.List.{list_any}
use Rattle.hls_presentation.specs.{Presenting.{behind, contents_of}, Sections.{is_too_long, rows_from, rows_of, section_count}}

abbrev pub invariant-loop-place : goal.invariant-loop-place
invariant-loop-place l = record {
  short : list_any is_too_long (rows_from l.tracks l.place (section_count l.tracks - l.place)) ≡ false;
  told : behind l.contents (contents_of l.self.nanos (rows_from l.tracks l.place (section_count l.tracks - l.place)))
      ≡ contents_of l.self.nanos (rows_of l.tracks);
}
