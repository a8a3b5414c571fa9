-- Texts that lie in the source or behind it.
use Rattle.std.proofs.Common.{◌≡◌, ℕ, ◌+◌, ◌-◌, ◌≤◌, List, ◌++◌, length, take, drop, get_or, inl, inr, arith}
use Rattle.std.proofs.lemmas.List.{get_or_append_left, get_or-append-add, length-append, drop-append-le, take-append-le, length-drop}
use Rattle.std.proofs.{lemmas.List.{drop_at, drop-drop}, lemmas.Bool.cases_lt, lemmas.Str.IsCharBoundary-at_seam, lemmas.Grind.common_steps}
use Rattle.std.specs.{List.slice_range, Str.{IsUtf8, IsCharBoundary}}
use Rattle.mpd_tree.specs.{declared.tree.KeptSpan.KeptSpan, Rows.{IsKept, IsNameKept}}

-- a cut of a text is one of its front, or of what is behind that
pub boundary_left : (source read : List ℕ) (i : ℕ) → i ≤ length source → IsCharBoundary (source ++ read) i → IsCharBoundary source i
boundary_left source read i within cut =
    (within, λ below high. grind (arith, get_or_append_left source read 0 i below, length-append source read, cut.1))

pub boundary_right : (source read : List ℕ) (i : ℕ) → length source ≤ i → IsCharBoundary (source ++ read) i
    → IsCharBoundary read (i - length source)
boundary_right source read i behind cut = (
  grind (arith, length-append source read, cut.0),
  λ below high. grind (arith, common_steps, get_or-append-add source read (i - length source) 0, length-append source read, cut.1),
)

-- a cut of a text stays one where whole characters follow
pub boundary_kept : (kept more : List ℕ) (i : ℕ) → IsUtf8 more → IsCharBoundary kept i → IsCharBoundary (kept ++ more) i
boundary_kept kept more i utf8 cut = (
  grind (arith, cut.0, length-append kept more),
  λ below high. elim (cases_lt i (length kept)) [
    | inl front ↦ grind (arith, get_or_append_left kept more 0 i front, cut.1)
    | inr behind ↦
        grind (arith, cut.0, length-append kept more, (IsCharBoundary-at_seam (kept ++ more) kept more (λ _. kept ++ more) utf8).1)
  ],
)

-- what stands in the source, and what stands behind it
pub range_left : {X : Type 0} (source read : List X) (i j : ℕ) → i ≤ j → j ≤ length source
    → slice_range (source ++ read) i j ≡ slice_range source i j
range_left source read i j ordered within =
    grind (arith, drop-append-le i source read, take-append-le (j - i) (drop i source) read, length-drop i source)

pub range_right : (source read : List ℕ) (i j : ℕ) → length source ≤ i → i ≤ j
    → slice_range (source ++ read) i j ≡ slice_range read (i - length source) (j - length source)
range_right source read i j behind ordered =
    let behind_all = drop_at source read (length source) (λ _. length source) in
    grind (arith, common_steps, drop-drop (i - length source) (length source) (source ++ read), behind_all)

pub kept_more : (source kept more : List ℕ) (span : KeptSpan) → IsUtf8 more → IsKept source kept span → IsKept source (kept ++ more) span
kept_more source kept more span utf8 k = record {
  ordered = k.ordered;
  start_is = boundary_kept kept more span.start utf8 k.start_is;
  end_is = boundary_kept kept more span.end utf8 k.end_is;
  whole = k.whole;
}

pub name_kept_more : (source kept more : List ℕ) (span : KeptSpan) → IsUtf8 more → IsNameKept source kept span
    → IsNameKept source (kept ++ more) span
name_kept_more source kept more span utf8 k =
    record { kept_so = kept_more source kept more span utf8 k.kept_so; some_before = k.some_before; within = k.within }

pub ruleset kept_texts = (boundary_left, boundary_right, range_left, range_right, length-append)
