-- How many line feeds stand before a byte, by the blocks before it.
use Rattle.std.proofs.Common.{◌≡◌, ℕ, ◌+◌, ◌-◌, ◌*◌, ◌≤◌, Bool, List, [], ◌∷◌, ◌++◌, length, take, drop, count_by, ap, ◌∙◌, arith, inl}
use Rattle.std.proofs.{Common.inr, Math.Seq.take-add, lemmas.Bool.cases_lt, lemmas.List.Sums.{count_by-le-length, sum_by-append}}
use Rattle.std.proofs.lemmas.List.{get_or_append_left, get_or_push, get_or_read, length-append, length-take}
use Rattle.std.specs.List.{slice_range}
use Rattle.byte_scan.specs.Lines.{is_line_feed}
use Rattle.mpd_tree.specs.Lines.{AreCounted, block_size}

-- up to a place, and from there on
pub count_on : (p : ℕ → Bool) (bytes : List ℕ) (from to : ℕ) → from ≤ to → count_by p (take to bytes)
    ≡ count_by p (take from bytes) + count_by p (slice_range bytes from to)
count_on p bytes from to ordered =
    let split : to ≡ from + (to - from) = omega arith in
    ap (λ n. count_by p (take n bytes)) split ∙ ap (count_by p) (take-add from (to - from) bytes)
    ∙ sum_by-append _ (take from bytes) (take (to - from) (drop from bytes))

pub one_more_block : (bytes counts : List ℕ) (blocks count : ℕ) → AreCounted bytes blocks counts
    → count ≡ count_by is_line_feed (take ((blocks + 1) * block_size) bytes) → AreCounted bytes (blocks + 1) (counts ++ count ∷ [])
one_more_block bytes counts blocks count are is = record {
  as_many = grind (arith, are.as_many, length-append counts (count ∷ []));
  each = λ k within. elim (cases_lt k (blocks + 1)) [
    | inl before ↦ grind (arith, get_or_append_left counts (count ∷ []) 0 k, are.as_many, are.each k)
    | inr behind ↦
        let last : k ≡ blocks + 1 = omega arith in
        rw last (grind (arith, get_or_push counts count 0 (blocks + 1) are.as_many))
  ];
}

pub ruleset line_counts = (count_on, count_by-le-length, length-take, get_or_read)
