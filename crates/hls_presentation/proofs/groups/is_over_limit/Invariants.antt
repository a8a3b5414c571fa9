use Rattle.std.proofs.Common.{◌≡◌, ◌+◌, ◌-◌, ◌*◌, ◌^◌, ◌≤◌}
use Rattle.std.specs.List.{list_any, sum_by}
use Rattle.hls_presentation.specs.Sections.{is_too_long, row_length, rows_from, rows_of}
use Rattle.hls_presentation.proofs.groups.is_over_limit.Given as goal

abbrev pub invariant-loop-place : goal.invariant-loop-place
invariant-loop-place l = record {
  long : list_any is_too_long (rows_from l.tracks l.place (l.count - l.place)) ≡ list_any is_too_long (rows_of l.tracks);
  total : l.total + sum_by row_length (rows_from l.tracks l.place (l.count - l.place)) ≡ sum_by row_length (rows_of l.tracks);
  bounded : l.total ≤ l.place * 2 ^ 63;
}
