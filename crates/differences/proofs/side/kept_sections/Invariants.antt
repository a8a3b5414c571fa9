use Rattle.std.proofs.Common.{◌≡◌, ◌++◌, ◌-◌, filter, length}
use Rattle.std.specs.List.{range_with_len}
use Rattle.differences.specs.Sections.{has_content, kept_sections}
use Rattle.differences.proofs.side.kept_sections.Given as goal

-- the sections before this one are chosen
abbrev pub invariant-loop-section : goal.invariant-loop-section
invariant-loop-section l = let p = l.presentation in
    kept_sections p ≡ l.sections ++ filter (has_content p) (range_with_len l.section (length p.sections - l.section))
