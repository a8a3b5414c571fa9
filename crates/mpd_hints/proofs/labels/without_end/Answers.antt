use Rattle.mpd_hints.proofs.labels.without_end.Goals as goal
use Rattle.std.proofs.Common.{ℕ, zero, suc, ◌-◌, ◌≡◌, arith, length, List, IsCharBoundary, rules}
use Rattle.std.proofs.lemmas.List.Sums.{suffix_len-le-length}
use Rattle.std.specs.List.{suffix_len}
use Rattle.mpd_hints.specs.Labels.{is_blank}
use Rattle.mpd_hints.proofs.Boundaries.{before_end}

pub overflow_sub-text : goal.overflow_sub-text
overflow_sub-text c = omega (arith, suffix_len-le-length is_blank c.args.text.now)

cut_at : (text : List ℕ) (n : ℕ) → n ≡ suffix_len is_blank text → IsCharBoundary text (length text - n)
cut_at text zero is = search rules
cut_at text (suc n) is = before_end text (suc n) is (omega arith)

pub range-requires-clause-end_boundary : goal.range-requires-clause-end_boundary
range-requires-clause-end_boundary c = cut_at c.args.text.now _ c.end_len.ensures
