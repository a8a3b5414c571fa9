use Rattle.mpd_text.proofs.kept.Kept.add_attribute.Goals as goal
use Rattle.std.proofs.{Common.{[], ◌∷◌, ◌≤◌, length, vec_len, refl, sym, arith}, lemmas.List.{append-nil, length-append}}
use Rattle.std.proofs.lemmas.List.Elements.{All-push}
use Rattle.std.specs.{List.All, String.string_bytes}
use Rattle.mpd_text.specs.Keeping.{kept_of}
use Rattle.mpd_tree.specs.{Rows.IsAttributeKept, declared.tree.AttributeRow.AttributeRow}
use Rattle.mpd_text.proofs.KeptRows.{attribute_shown, kept_adds, name_kept, pushed, same_added, within_more}

pub invariant_of-self-clause-attributes_kept : goal.invariant_of-self-clause-attributes_kept
invariant_of-self-clause-attributes_kept c =
    let k = c.args.self.now in
    let P = IsAttributeKept k.source.now (kept_of k) in
    let span = rw c.requires.rest at c.in_ok-name.ensures.span in
    pushed (All P) c.push.new.self.items k.attributes.items _ c.push.result c.push.ensures.items k.attributes_kept
    (All-push P k.attributes.items _ k.attributes_kept (record {
      name = name_kept k c.args.bytes.now c.requires.bytes c.in_ok-name.name span.0 span.1;
      value = c.requires.value;
    }))

pub invariant_of-self-clause-attributes_within : goal.invariant_of-self-clause-attributes_within
invariant_of-self-clause-attributes_within c =
    let k = c.args.self.now in
    let rows = k.attributes.items in
    let row : AttributeRow = record { name = c.in_ok-name.name; value = c.args.value } in
    let longer = pushed (λ l. length rows ≤ length l) c.push.new.self.items rows (row ∷ []) c.push.result c.push.ensures.items (omega arith)
    (omega (arith, length-append rows (row ∷ []))) in
    let le : vec_len k.attributes ≤ vec_len c.push.new.self = omega (arith, longer, k.attributes.ok.0, c.push.new.self.ok.0) in
    within_more (vec_len k.attributes) (vec_len c.push.new.self) k.elements le k.attributes_within

pub returns-clause-adds : goal.returns-clause-adds
returns-clause-adds c =
    let k = c.args.self.now in
    let span = rw c.requires.rest at c.in_ok-name.ensures.span in
    let row : AttributeRow = record { name = c.in_ok-name.name; value = c.args.value } in
    same_added k _ _ _
    (attribute_shown k c.args.bytes.now c.requires.bytes row span.0 span.1)
    (kept_adds k _ [] (row ∷ []) refl refl (sym (append-nil (string_bytes k.read))) c.in_ok-push.ensures.items)
