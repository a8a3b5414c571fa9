use Rattle.url_parts.proofs.base.without_tail.Goals as goal
use Rattle.std.proofs.{Common.{◌≡◌, ℕ, ◌<◌, List, length, Some, arith, IsCharBoundary}, lemmas.Bool.Decides.nat_tests}
use Rattle.std.proofs.{lemmas.List.Sums.passes_at_first, lemmas.Str.IsCharBoundary-before_ascii}
use Rattle.std.specs.{Prelude.position, List.position_or_len}
use Rattle.url_parts.specs.Addresses.{is_tail}

-- a text can be cut before its tail
cut_before_tail : (text : List ℕ) (k : ℕ) → Some k ≡ position is_tail text → IsCharBoundary text k
cut_before_tail text k found =
    let inside : (k < length text) × (k ≡ position_or_len is_tail text) = grind (arith, nat_tests) in
    let mark = passes_at_first is_tail text 0 (omega arith) in
    IsCharBoundary-before_ascii text k inside.0 (rw inside.1 (grind (arith, nat_tests)))

pub range-requires-clause-end_boundary : goal.range-requires-clause-end_boundary
range-requires-clause-end_boundary c = cut_before_tail c.args.text.now c.in-Some.start (rw c.as_bytes.ensures.value at c.in-Some.ensures)
