use Rattle.std.proofs.Common.{◌≡◌, ◌+◌, length}
use Rattle.index_parts.specs.Rows.{rows_left}
use Rattle.bridge_pages.proofs.media.are_many.Given as goal

abbrev pub invariant-loop-passed : goal.invariant-loop-passed
invariant-loop-passed l = l._passed + length (rows_left l.rows) ≡ length (rows_left l.fn.rows)
