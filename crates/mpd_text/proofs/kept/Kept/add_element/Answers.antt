use Rattle.mpd_text.proofs.kept.Kept.add_element.Goals as goal
use Rattle.std.proofs.{Common.{◌≡◌, [], ◌∷◌, suc, length, map, vec_len, refl, sym, ap, ◌∙◌, arith}, lemmas.List.{length-map, map-append}}
use Rattle.std.proofs.lemmas.List.Elements.{All-push}
use Rattle.std.specs.List.{All}
use Rattle.mpd_text.specs.Keeping.{attributes_in, kept_of, shown_in}
use Rattle.mpd_tree.specs.{Forests.shown_of, Rows.{HasAttributesWithin, IsElementKept}, declared.tree.ElementRow.ElementRow}
use Rattle.mpd_text.proofs.KeptRows.{changed, head_shown, lengths, name_kept, nothing_kept, size}

pub invariant_of-self-clause-elements_kept : goal.invariant_of-self-clause-elements_kept
invariant_of-self-clause-elements_kept c =
    let k = c.args.self.now in
    let P = IsElementKept k.source.now (kept_of k) in
    let span = rw c.requires.rest at c.in_ok-name.ensures.span in
    changed (All P) c.push.new.self k.elements _ c.push.result c.push.ensures.ok c.push.ensures.stays k.elements_kept
    (All-push P k.elements _ k.elements_kept (record {
      name = name_kept k c.args.bytes.now c.requires.bytes c.in_ok-name.name span.0 span.1;
      text = nothing_kept k;
    }))

pub invariant_of-self-clause-attributes_within : goal.invariant_of-self-clause-attributes_within
unfolding attributes_in
invariant_of-self-clause-attributes_within c =
    let k = c.args.self.now in
    let P = HasAttributesWithin (vec_len k.attributes) in
    changed (All P) c.push.new.self k.elements _ c.push.result c.push.ensures.ok c.push.ensures.stays k.attributes_within
    (All-push P k.elements _ k.attributes_within (record {
      ordered = omega (
        arith,
        c.requires.attributes,
        lengths k.source.now (kept_of k) k.attributes.items,
        k.attributes.ok.0,
        c.in_ok-first.ensures.ok,
        c.in_ok-end.ensures.ok,
        c.len.ensures,
      );
      within = omega (arith, c.in_ok-end.ensures.ok, c.len.ensures);
    }))

pub returns-clause-row : goal.returns-clause-row
returns-clause-row c = c.len-row.ensures.length ∙ sym (size c.args.self.now)

pub returns-clause-grows : goal.returns-clause-grows
unfolding shown_in attributes_in
returns-clause-grows c =
    let k = c.args.self.now in
    let f = shown_of k.source.now (kept_of k) k.attributes.items in
    let span = rw c.requires.rest at c.in_ok-name.ensures.span in
    let row : ElementRow = record {
      name = c.in_ok-name.name;
      text = record { start = 0; end = 0 };
      attributes = c.in_ok-first.first;
      attributes_end = c.in_ok-end.end;
      next = c.in_ok-next.next;
    } in
    let count = lengths k.source.now (kept_of k) k.attributes.items in
    let first : c.in_ok-first.first ≡ c.args.attributes = c.in_ok-first.ensures.ok in
    let head = head_shown k c.args.bytes.now c.requires.bytes row span.0 span.1
    (omega (arith, first, c.requires.attributes, count))
    (omega (arith, c.in_ok-end.ensures.ok, c.len.ensures, k.attributes.ok.0)) refl in
    let next : c.in_ok-next.next ≡ suc (length (map f k.elements)) = omega (
      arith,
      c.in_ok-next.ensures.ok,
      c.len-row.ensures.length,
      length-map k.elements f,
    ) in
    record {
      same = refl;
      shown_are = ap (map f) c.in_ok-push.ensures.ok ∙ map-append f k.elements (row ∷ []) ∙ rw (head, next, first) refl;
    }
