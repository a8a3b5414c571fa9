-- Elements and what is in them are read as the grammar says.
use Rattle.std.proofs.Common.{◌≡◌, ℕ, zero, suc, Bool, true, false, inl, inr, List, [], ◌∷◌, length, drop, Err, refl, sym, ap, arith}
use Rattle.std.specs.Prelude.{◌==◌}
use Rattle.mpd_tree.specs.{Characters.starts_name, Marked.marked_in_content, Trees.Head, Positions.{here, fault_at}}
use Rattle.mpd_tree.specs.Pieces.{Piece, ended, comment, empty, begun, tag_piece, Inside, nothing_inside}
use Rattle.mpd_tree.specs.Productions.{Production, from, ◌>>◌}
use Rattle.mpd_tree.specs.Grammar.{piece, added, next_inside, inside, tag, element, behind_root_start, root}
use Rattle.mpd_tree.proofs.Produced.{IsRead, last_of, third_of, passed, bounded, done, no, refuses, met, weaker, also, next_read, shown}
use Rattle.mpd_tree.proofs.{Produced.{at_test, ReadsOn, many_read}, Comments.comment_read, Tags.{tag_read, end_tag_read}, Texts.text_read}

-- ---- what stands behind a `<`

piece_read : (whole : List ℕ) (room : ℕ) (name : List ℕ) (left : ℕ) (bytes : List ℕ)
    → IsRead last_of (piece whole room name left bytes) (suc (length bytes))
unfolding piece
piece_read whole room name left [] = no
piece_read whole room name left (b ∷ bs) =
    at_test (b == 47) (λ t. also (shown (λ x. refl) (end_tag_read name left bs))) (λ _.
    at_test (b == 33) (λ t. also (shown (λ x. refl) (comment_read left bs))) (λ _.
    at_test (b == 63) (λ t. refuses) (λ _.
    at_test (starts_name b) (λ t. at_test (room == 0) (λ full. refuses) (λ free. also (tag_read whole left b bs t)))
    (λ _. refuses))))

-- ---- what is inside an element

abbrev Inner : Type 1
Inner = List ℕ → List ℕ → Production (Inside × List ℕ)

abbrev IsInnerRead : Inner → Type 0
IsInnerRead c = (name bytes : List ℕ) → IsRead last_of (c name bytes) (suc (length bytes))

added_read : {c : Inner} → IsInnerRead c → (before : Inside) (x : Piece × List ℕ) → IsRead third_of (added c before x) (last_of x)
added_read h before (ended, rest) = done
added_read h before (comment, rest) = done
added_read h before (empty head, rest) = done
added_read h before (begun head, rest) = shown (λ x. refl) (h head.name rest)

behind_text : {c : Inner} → IsInnerRead c → (whole : List ℕ) (room : ℕ) (name : List ℕ) (before : Inside) (bytes : List ℕ)
    → IsRead third_of (from (here bytes) (piece whole room name (length bytes) (drop 1 bytes) >> added c before)) (suc (length bytes))
unfolding piece
behind_text h whole room name before [] =
    met (λ p at. inr (ap Err (ap fault_at (sym at)))) (next_read (piece_read whole room name 0 []) (λ x _. added_read h before x))
behind_text h whole room name before (b ∷ bs) =
    also (next_read (piece_read whole room name (length (b ∷ bs)) bs) (λ x _. added_read h before x))

next_inside_read : {c : Inner} → IsInnerRead c → (whole : List ℕ) (room : ℕ) (name : List ℕ) → ReadsOn (next_inside c whole room name)
unfolding next_inside
next_inside_read h whole room name = record {
  reads = λ before bytes. next_read (text_read before.text marked_in_content 60 bytes)
      (λ t _. behind_text h whole room name (record before { text = t.0 }) t.1);
  fewer = λ before bytes x is e.
      let t = is.0 in
      let behind_it = passed (behind_text h whole room name (record before { text = t.0 }) t.1) x is.2 (here t.1) (inl refl) in
      omega (arith, behind_it, bounded (text_read before.text marked_in_content 60 bytes) t is.1);
}

inside_read : (room : ℕ) (whole : List ℕ) → IsInnerRead (inside room whole)
unfolding inside
inside_read zero whole name bytes = weaker (omega arith) (no {q = here []})
inside_read (suc room) whole name bytes = many_read (next_inside_read (inside_read room whole) whole room name) nothing_inside bytes

-- ---- the root

no_end : (is_empty : Bool) (head : Head) → ended ≡ tag_piece is_empty head → ⊥
no_end true head e = absurd cc
no_end false head e = absurd cc

no_comment : (is_empty : Bool) (head : Head) → comment ≡ tag_piece is_empty head → ⊥
no_comment true head e = absurd cc
no_comment false head e = absurd cc

element_read : (whole : List ℕ) (left : ℕ) (bytes : List ℕ) (x : Piece × List ℕ) → (tag whole left bytes).spells x
    → IsRead last_of (element whole x) (last_of x)
unfolding tag
element_read whole left bytes (ended, rest) is = absurd (no_end is.2.0.0 _ (ap (λ (y : Piece × List ℕ). y.0) is.2.2))
element_read whole left bytes (comment, rest) is = absurd (no_comment is.2.0.0 _ (ap (λ (y : Piece × List ℕ). y.0) is.2.2))
element_read whole left bytes (empty head, rest) is = done
element_read whole left bytes (begun head, rest) is = shown (λ x. refl) (inside_read 32 whole head.name rest)

root_behind_read : (whole : List ℕ) (left : ℕ) (bytes : List ℕ) → IsRead last_of (behind_root_start whole left bytes) (suc (length bytes))
unfolding behind_root_start
root_behind_read whole left [] = no
root_behind_read whole left (b ∷ bs) =
    at_test (b == 63) (λ t. refuses) (λ _.
    at_test (starts_name b) (λ t. also (next_read (tag_read whole left b bs t) (element_read whole left (b ∷ bs)))) (λ _. refuses))

pub root_read : (whole bytes : List ℕ) → IsRead last_of (root whole bytes) (suc (length bytes))
unfolding root
root_read whole [] = no
root_read whole (b ∷ bs) = at_test (b == 60) (λ t. also (root_behind_read whole (length (b ∷ bs)) bs)) (λ _. refuses)
