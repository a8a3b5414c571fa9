use Rattle.std.proofs.Common.{◌≡◌, ℕ, List, ◌++◌, flat_map, length}
use Rattle.std.specs.String.{string_bytes}
use Rattle.presentation.specs.Counting.{sections_of}
use Rattle.presentation.proofs.Counts.{from_on}
use Rattle.bridge_steps.specs.Listing.{entry_line}
use Rattle.bridge_steps.proofs.listing.push_entries.Given as goal

abbrev pub invariant-loop-section : goal.invariant-loop-section
invariant-loop-section l = let text : ℕ → List ℕ = λ section. entry_line l.digits l.presentation l.track section l.told in
    string_bytes l.lines ++ flat_map text (from_on l.section (length l.presentation.sections))
    ≡ string_bytes l.fn.lines ++ flat_map text (sections_of l.presentation)
