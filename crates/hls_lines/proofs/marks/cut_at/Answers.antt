use Rattle.std.proofs.Common.{sym, ◌∙◌}
use Rattle.hls_lines.proofs.ScanLemmas.{mark_boundaries}
use Rattle.hls_lines.proofs.marks.cut_at.Goals as goal

pub range-requires-clause-end_boundary : goal.range-requires-clause-end_boundary
range-requires-clause-end_boundary c =
    (mark_boundaries _ c.args.mark c.in_ok-at.at c.utf8.text c.requires (rw c.as_bytes.ensures.value at (sym c.find_mark.ensures
    ∙ c.in_ok-at.was))).0

pub range_from-requires : goal.range_from-requires
range_from-requires c =
    λ _. (mark_boundaries _ c.args.mark c.in_ok-at.at c.utf8.text c.requires (rw c.as_bytes.ensures.value at (sym c.find_mark.ensures
    ∙ c.in_ok-at.was))).1
