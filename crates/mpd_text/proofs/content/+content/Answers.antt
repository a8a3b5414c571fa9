use Rattle.mpd_text.proofs.content.+content.Goals as goal
use Rattle.std.proofs.Common.{◌≡◌, suc, ◌+◌, ◌-◌, ◌∷◌, ◌++◌, [], length, refl, sym, ap, ◌∙◌, subst, arith, append_assoc, IfSome, Ok, Err}
use Rattle.std.proofs.{lemmas.List.{append-nil, length-append}, lemmas.Result.err_from_is_err_and}
use Rattle.std.specs.String.{string_bytes}
use Rattle.mpd_text.specs.{Keeping.shown_in, Rests.{IsBehind, IsEnd}}
use Rattle.mpd_tree.specs.{Forests.{Shown, flat}, Grammar.inside, Reading.fault_in, Marked.marked_in_content, Runs.plain_at, Trees.nothing}
use Rattle.mpd_text.proofs.{KeptRows.{cut_kept, cut_shown}, Rests.{Leaves, end_tag_rest, ends, ends_drop, ends_tail}}
use Rattle.mpd_text.proofs.TextLoop.{marked_ascii, plain_parts}
use Rattle.mpd_text.proofs.ContentLoop.{InsideReading, child_added, empty_added, filled, inside_read, leaf_is, piece_failed, piece_read}
use Rattle.mpd_text.proofs.{ContentLoop.text_failed, Loop.{failed, loop_cut, loop_failed, loop_stepped}}

pub content_of-returns-in_err-rest-clause-read : goal.content_of-returns-in_err-rest-clause-read
content_of-returns-in_err-rest-clause-read t c =
    let k = c.args.kept.now in
    let p = err_from_is_err_and c.from_residual-in_err-rest.result c.from_residual-in_err-rest.ensures.1 in
    let plain = rw k.marked.content_is at c.plain_of.ensures.rest in
    rw (p.1, p.2) (failed c.in_err-rest.field-0.0 _ _ _ c.in_err-rest.ensures
    (leaf_is c.args.room k.source.now c.args.name.now c.args.bytes.now _ _ plain c.in-Some.ensures))

pub content_of-returns-in-Some-clause-read : goal.content_of-returns-in-Some-clause-read
content_of-returns-in-Some-clause-read t c =
    let k = c.args.kept.now in
    let bytes = c.args.bytes.now in
    let plain = rw k.marked.content_is at c.plain_of.ensures.rest in
    let span = rw plain at c.in_ok-span.ensures.span in (
      record { children = nothing; text = (plain_at marked_in_content bytes).0 },
      sym (leaf_is c.args.room k.source.now c.args.name.now bytes _ _ plain c.in-Some.ensures) ∙ rw c.in_ok-rest.ensures refl,
      record { same = refl; shown_are = sym (append-nil (shown_in k)) },
      cut_shown k.source.now (string_bytes k.read) bytes (plain_at marked_in_content bytes).0 (plain_at marked_in_content bytes).1 _ _
          (ends k.source.now bytes c.requires) (plain_parts marked_in_content bytes) span.0 span.1,
    )

pub content_of-returns-in-Some-clause-span : goal.content_of-returns-in-Some-clause-span
content_of-returns-in-Some-clause-span t c =
    let k = c.args.kept.now in
    let s = k.source.now in
    let bytes = c.args.bytes.now in
    let plain = rw k.marked.content_is at c.plain_of.ensures.rest in
    let span = rw plain at c.in_ok-span.ensures.span in
    let all = ends s bytes c.requires in
    let e = subst (IsEnd s) (sym c.plain_of.ensures.rest ∙ c.in-Some.ensures) (ends_drop _ s bytes all) in
    record {
      kept = cut_kept k bytes (plain_at marked_in_content bytes).0 (plain_at marked_in_content bytes).1 c.in_ok-span.span c.requires
          (ends_drop _ s bytes all) (marked_ascii marked_in_content bytes refl) (plain_parts marked_in_content bytes) span.0 span.1;
      left = subst (Leaves (IsBehind s)) c.in_ok-rest.ensures
          (end_tag_rest c.args.name.now _ s _ (ends_tail s 47 _ (ends_tail s 60 _ e)));
    }

pub content_of-loop-init : goal.content_of-loop-init
unfolding inside
content_of-loop-init t c =
    let len : length c.args.bytes.now + 1 - 0 ≡ length c.args.bytes.now + 1 = omega arith in
    record {
      children = nothing;
      same = c.new_text-text.ensures.adds.same;
      shown_are = c.new_text-text.ensures.adds.shown_are ∙ sym (append-nil (shown_in c.args.kept.now));
      left = c.requires;
      so_far = rw (c.new_text-text.ensures.text, len)
          (refl {a = (inside (suc c.args.room) c.args.kept.now.source.now c.args.name.now c.args.bytes.now).read});
    }

pub content_of-next_content-requires : goal.content_of-next_content-requires
content_of-next_content-requires t c =
    (omega arith, subst (λ s. IsBehind s c.loop.rest.now) (sym c.loop.invariant.same) c.loop.invariant.left)

pub content_of-returns-in_err-is_ended-clause-read : goal.content_of-returns-in_err-is_ended-clause-read
content_of-returns-in_err-is_ended-clause-read t c =
    let i = c.loop.invariant in
    let p = err_from_is_err_and c.from_residual-in_err-is_ended.result c.from_residual-in_err-is_ended.ensures.1 in
    let h = c.in_err-is_ended.ensures.read (shown_in c.args.kept.now) i.children i.shown_are in
    rw (p.1, p.2) (loop_failed _ _ _ i.so_far c.loop-test.true
    c.in_err-is_ended.field-0.0 (simp i.same at h))

pub content_of-returns-then-is_ended-clause-read : goal.content_of-returns-then-is_ended-clause-read
content_of-returns-then-is_ended-clause-read t c =
    let i = c.loop.invariant in
    let x = c.in_ok-is_ended.ensures.read (shown_in c.args.kept.now) i.children i.shown_are in
    let step = simp (i.same, c.if-is_ended.true) at x.1 in
    let adds = c.in_ok-span-2.ensures.adds in (
      record { children = x.0; text = string_bytes c.next_content.new.text },
      sym (loop_stepped _ _ _ i.so_far c.loop-test.true step),
      record { same = adds.same ∙ c.in_ok-is_ended.ensures.left.same ∙ i.same; shown_are = adds.shown_are ∙ x.2 },
      c.in_ok-span-2.ensures.text,
    )

pub content_of-returns-then-is_ended-clause-span : goal.content_of-returns-then-is_ended-clause-span
content_of-returns-then-is_ended-clause-span t c = record {
  kept = c.in_ok-span-2.ensures.kept;
  left = subst (λ s. IsBehind s c.in_ok-is_ended.after.now) c.loop.invariant.same c.in_ok-is_ended.ensures.left.left;
}

pub content_of-loop-preserved : goal.content_of-loop-preserved
content_of-loop-preserved t c =
    let i = c.loop.invariant in
    let x = c.in_ok-is_ended.ensures.read (shown_in c.args.kept.now) i.children i.shown_are in
    let step = simp (i.same, c.if-is_ended.false) at x.1 in
    record {
      children = x.0;
      same = c.in_ok-is_ended.ensures.left.same ∙ i.same;
      shown_are = x.2;
      left = subst (λ w. IsBehind w c.in_ok-is_ended.after.now) i.same c.in_ok-is_ended.ensures.left.left;
      so_far = loop_stepped _ _ _ i.so_far c.loop-test.true step;
    }

pub content_of-returns-clause-read : goal.content_of-returns-clause-read
content_of-returns-clause-read t c =
    rw c.syntax.ensures (loop_cut _ _ _ c.loop.invariant.so_far c.loop-test.false)

pub inside_of-content_of-requires : goal.inside_of-content_of-requires
inside_of-content_of-requires t c = (omega arith, c.requires.rest)

pub inside_of-returns-clause-read : goal.inside_of-returns-clause-read
inside_of-returns-clause-read t c =
    let k = c.args.kept.now in
    let x = c.in_ok-text.ensures.read in
    let mid = c.content_of.new.kept in
    let e = c.in_ok-end_element.ensures.ended in (
      x.0,
      x.1,
      record {
        same = c.end_element.ensures.same ∙ x.2.same;
        shown_are = λ before s is len.
            let all = x.2.shown_are ∙ ap (λ l. l ++ flat (length (shown_in k)) x.0.children) is
            ∙ append_assoc before (s ∷ []) (flat (length (shown_in k)) x.0.children) in
            let h = e before (flat (length (shown_in k)) x.0.children) s all len in
            filled (shown_in k) (shown_in mid) (shown_in c.end_element.new.self) before s c.args.begun.row x.0.children x.0.text is len
            x.2.shown_are (rw x.3 at h);
      },
    )

pub next_content-returns-in_err-markup-clause-read : goal.next_content-returns-in_err-markup-clause-read
next_content-returns-in_err-markup-clause-read t c = λ front children is.
    let p = err_from_is_err_and c.from_residual.result c.from_residual.ensures.1 in
    rw (p.1, p.2) (text_failed _ _ _ children _ _ c.args.kept.now.marked.content_is c.in_err-markup.field-0.0 c.in_err-markup.ensures.read)

pub next_content-returns-in_err-piece-clause-read : goal.next_content-returns-in_err-piece-clause-read
next_content-returns-in_err-piece-clause-read t c = λ front children is.
    let p = err_from_is_err_and c.from_residual-in_err-piece.result c.from_residual-in_err-piece.ensures.1 in
    rw (p.1, p.2) (piece_failed _ _ _ children _ _ c.args.kept.now.marked.content_is c.in_ok-markup.ensures.read c.in_err-piece.field-0.0
    c.in_err-piece.ensures.read)

pub next_content-inside_of-requires : goal.next_content-inside_of-requires
next_content-inside_of-requires t c =
    let h = rw c.in-Begun.is at c.in_ok-piece.ensures.piece.kept in (
      omega (arith, h.2),
      (
        subst (λ s. IsBehind s c.in_ok-piece.rest.now) (sym h.3.same) c.in_ok-piece.ensures.piece.left,
        omega (arith, h.0, ap length h.3.shown_are, length-append {A = Shown}),
      ),
    )

pub next_content-returns-in_err-rest-in-Begun-clause-read : goal.next_content-returns-in_err-rest-in-Begun-clause-read
next_content-returns-in_err-rest-in-Begun-clause-read t c = λ front children is.
    let p = err_from_is_err_and c.from_residual-in_err-rest-in-Begun.result c.from_residual-in_err-rest-in-Begun.ensures.1 in
    let e = c.in_err-rest-in-Begun.field-0.0 in
    let b = c.in-Begun.begun in
    let h = rw c.in-Begun.is at c.in_ok-piece.ensures.piece.kept in
    let x = rw c.in-Begun.is at c.in_ok-piece.ensures.read in
    let f = inside_read c.args.room b.room c.args.kept.now.source.now _ _ b.name.now c.in_ok-piece.rest.now
    (λ (r : InsideReading). IfSome (fault_in e) (λ f. r ≡ Err f)) h.2 h.3.same h.1 c.in_err-rest-in-Begun.ensures.read in
    rw (p.1, p.2) (failed e _ _ _ f (sym (piece_read _ _ _ children _ _ c.args.kept.now.marked.content_is c.in_ok-markup.ensures.read x)))

pub next_content-returns-in-Ended-clause-read : goal.next_content-returns-in-Ended-clause-read
next_content-returns-in-Ended-clause-read t c = λ front children is.
    let h = rw c.in-Ended.is at c.in_ok-piece.ensures.piece.kept in
    let x = rw c.in-Ended.is at c.in_ok-piece.ensures.read in
    (children, piece_read _ _ _ children _ _ c.args.kept.now.marked.content_is c.in_ok-markup.ensures.read x, h.shown_are ∙ is)

pub next_content-returns-in-Comment-clause-read : goal.next_content-returns-in-Comment-clause-read
next_content-returns-in-Comment-clause-read t c = λ front children is.
    let h = rw c.in-Comment.is at c.in_ok-piece.ensures.piece.kept in
    let x = rw c.in-Comment.is at c.in_ok-piece.ensures.read in
    (children, piece_read _ _ _ children _ _ c.args.kept.now.marked.content_is c.in_ok-markup.ensures.read x, h.shown_are ∙ is)

pub next_content-returns-in-Empty-clause-read : goal.next_content-returns-in-Empty-clause-read
next_content-returns-in-Empty-clause-read t c = λ front children is.
    let h = rw c.in-Empty.is at c.in_ok-piece.ensures.piece.kept in
    let x = rw c.in-Empty.is at c.in_ok-piece.ensures.read in (
      _,
      piece_read _ _ _ children _ _ c.args.kept.now.marked.content_is c.in_ok-markup.ensures.read x,
      empty_added _ _ front children _ is h.shown_are,
    )

pub next_content-returns-in_ok-rest-in-Begun-clause-read : goal.next_content-returns-in_ok-rest-in-Begun-clause-read
next_content-returns-in_ok-rest-in-Begun-clause-read t c = λ front children is.
    let k = c.args.kept.now in
    let b = c.in-Begun.begun in
    let h = rw c.in-Begun.is at c.in_ok-piece.ensures.piece.kept in
    let x = rw c.in-Begun.is at c.in_ok-piece.ensures.read in
    let i = c.in_ok-rest-in-Begun.ensures.read in
    let inner = inside_read c.args.room b.room k.source.now _ _ b.name.now c.in_ok-piece.rest.now
    (λ (r : InsideReading). r ≡ Ok (i.0, c.in_ok-rest-in-Begun.rest.now)) h.2 h.3.same h.1 i.1 in (
      _,
      piece_read _ _ _ children _ _ k.marked.content_is c.in_ok-markup.ensures.read x ∙ rw inner refl,
      child_added _ _ front children i.0.children _ b.row h.0 is (i.2.shown_are (shown_in k) _ h.3.shown_are (sym h.0)),
    )
