use Rattle.std.proofs.Common.{◌+◌, ℕ, List, ◌++◌, ◌∙◌, ap, arith, flat_map, length}
use Rattle.std.specs.String.{string_bytes}
use Rattle.presentation.specs.Counting.{sections_of}
use Rattle.presentation.proofs.Counts.{from_on}
use Rattle.bridge_steps.specs.Listing.{entry_line}
use Rattle.bridge_steps.proofs.Pushing.{one_more}
use Rattle.bridge_steps.proofs.listing.push_entries.Goals as goal

pub loop-section-preserved : goal.loop-section-preserved
loop-section-preserved c =
    let p = c.args.presentation.now in
    let text : ℕ → List ℕ = λ section. entry_line c.args.digits p c.args.track section c.args.told.now in
    let sections = length p.sections in
    ap (λ lines. lines ++ flat_map text (from_on (c.loop-section.section + 1) sections)) c.in_ok-push_entry.ensures
    ∙ one_more text (string_bytes c.args.lines.now ++ flat_map text (sections_of p)) (string_bytes c.loop-section.lines)
    c.loop-section.section sections
    (omega (arith, ap length c.sections.ensures)) c.loop-section.invariant
