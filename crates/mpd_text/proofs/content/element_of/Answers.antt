use Rattle.mpd_text.proofs.content.element_of.Goals as goal
use Rattle.std.proofs.{Common.{◌≡◌, [], length, refl, sym, ap, subst, arith, Ok, Err, IfSome}, lemmas.List.length-append}
use Rattle.std.proofs.lemmas.Result.{err_from_is_err_and}
use Rattle.mpd_text.specs.{Keeping.{last_head, shown_in}, Rests.IsBehind}
use Rattle.mpd_tree.specs.{Forests.Shown, Reading.fault_in, Trees.nothing}
use Rattle.mpd_text.proofs.{ContentLoop.{InsideReading, child_added, element_is, empty_added, inside_read}, Loop.failed}

pub inside_of-requires : goal.inside_of-requires
inside_of-requires c =
    let h = rw c.in-Begun.is at c.in_ok-piece.ensures.kept in
    record {
      rest = subst (λ s. IsBehind s c.in_ok-piece.rest.now) (sym h.3.same) c.in_ok-piece.ensures.rest;
      row = omega (arith, h.0, ap length h.3.shown_are, length-append {A = Shown});
    }

pub returns-in_err-rest-in-Begun-clause-read : goal.returns-in_err-rest-in-Begun-clause-read
returns-in_err-rest-in-Begun-clause-read c =
    let p = err_from_is_err_and c.from_residual-in_err-rest-in-Begun.result c.from_residual-in_err-rest-in-Begun.ensures.1 in
    let e = c.in_err-rest-in-Begun.field-0.0 in
    let b = c.in-Begun.begun in
    let h = rw c.in-Begun.is at c.in_ok-piece.ensures.kept in
    let x = rw c.in-Begun.is at c.in_ok-piece.ensures.read in
    let f = inside_read 32 b.room c.args.kept.now.source.now _ _ b.name.now c.in_ok-piece.rest.now
    (λ (r : InsideReading). IfSome (fault_in e) (λ f. r ≡ Err f)) h.2 h.3.same h.1 c.in_err-rest-in-Begun.ensures.read in
    rw (p.1, p.2) (failed e _ _ _ f (element_is c.args.kept.now.source.now c.args.left c.args.bytes.now x))

pub returns-in_ok-rest-in-Begun-clause-read : goal.returns-in_ok-rest-in-Begun-clause-read
returns-in_ok-rest-in-Begun-clause-read c =
    let k = c.args.kept.now in
    let b = c.in-Begun.begun in
    let h = rw c.in-Begun.is at c.in_ok-piece.ensures.kept in
    let x = rw c.in-Begun.is at c.in_ok-piece.ensures.read in
    let i = c.in_ok-rest-in-Begun.ensures.read in
    let head = last_head k c.tag_of.new.kept c.args.left c.args.bytes.now in
    let inner = inside_read 32 b.room k.source.now _ _ b.name.now c.in_ok-piece.rest.now
    (λ (r : InsideReading). r ≡ Ok (i.0, c.in_ok-rest-in-Begun.rest.now)) h.2 h.3.same h.1 i.1 in (
      record { head = record head { text = i.0.text }; children = i.0.children },
      rw (x, inner) refl,
      child_added (shown_in k) (shown_in c.inside_of.new.kept) [] nothing i.0.children (record head { text = i.0.text }) b.row h.0
          c.requires.first (i.2.shown_are (shown_in k) _ h.3.shown_are (sym h.0)),
    )

pub returns-in-Empty-clause-read : goal.returns-in-Empty-clause-read
returns-in-Empty-clause-read c =
    let k = c.args.kept.now in
    let h = rw c.in-Empty.is at c.in_ok-piece.ensures.kept in
    let x = rw c.in-Empty.is at c.in_ok-piece.ensures.read in
    let head = last_head k c.tag_of.new.kept c.args.left c.args.bytes.now in (
      record { head = head; children = nothing },
      rw x refl,
      empty_added (shown_in k) (shown_in c.tag_of.new.kept) [] nothing head c.requires.first h.shown_are,
    )
