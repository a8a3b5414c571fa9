use Rattle.std.proofs.Common.{◌<◌, ◌+◌, ◌-◌, ◌++◌, ◌∙◌, ap, arith, filter, length, sym}
use Rattle.std.specs.List.{range_with_len}
use Rattle.differences.specs.Sections.{has_content, kept_sections}
use Rattle.differences.proofs.Chosen.{with_next}
use Rattle.differences.proofs.side.kept_sections.Goals as goal

pub loop-section-preserved : goal.loop-section-preserved
loop-section-preserved c =
    let p = c.args.presentation.now in let i = c.loop-section.section in let n = length p.sections in
    let within : i < n = omega (arith, ap length c.sections.ensures) in
    with_next (has_content p) i n within c.loop-section.sections (kept_sections p) c.loop-section.invariant
    ∙ ap (λ xs. xs ++ filter (has_content p) (range_with_len (i + 1) (n - (i + 1)))) (sym c.in_ok-add_section.ensures)
