use Rattle.mpd_presentation.proofs.checks.has_more_rows.Given as goal
use Rattle.std.proofs.Common.{◌≡◌, ◌+◌, length}
use Rattle.mpd_presentation.specs.Rows.{rows_left}

abbrev pub invariant-loop-passed : goal.invariant-loop-passed
invariant-loop-passed l = l._passed + length (rows_left l.rows) ≡ length (rows_left l.fn.rows)
