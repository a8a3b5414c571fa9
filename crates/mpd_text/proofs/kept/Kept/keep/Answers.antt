use Rattle.mpd_text.proofs.kept.Kept.keep.Goals as goal
use Rattle.std.proofs.{Common.{[], ◌++◌, ◌∙◌, length, refl, sym, ap}, lemmas.List.append-nil}
use Rattle.std.specs.{List.All, String.string_bytes}
use Rattle.mpd_tree.specs.Rows.{IsAttributeKept, IsElementKept}
use Rattle.mpd_text.proofs.KeptRows.{attributes_grown, elements_grown, kept_adds, nothing_kept, pushed, read_kept, read_shown}

pub invariant_of-self-clause-elements_kept : goal.invariant_of-self-clause-elements_kept
invariant_of-self-clause-elements_kept c =
    let k = c.args.self.now in
    pushed (λ l. All (IsElementKept k.source.now (k.source.now ++ l)) k.elements) (string_bytes c.push_str.new.self)
    (string_bytes k.read) c.args.text.now c.push_str.result c.push_str.ensures.bytes k.elements_kept
    (elements_grown k.source.now (string_bytes k.read) c.args.text.now k.elements c.utf8.text k.elements_kept)

pub invariant_of-self-clause-attributes_kept : goal.invariant_of-self-clause-attributes_kept
invariant_of-self-clause-attributes_kept c =
    let k = c.args.self.now in
    pushed (λ l. All (IsAttributeKept k.source.now (k.source.now ++ l)) k.attributes.items) (string_bytes c.push_str.new.self)
    (string_bytes k.read) c.args.text.now c.push_str.result c.push_str.ensures.bytes k.attributes_kept
    (attributes_grown k.source.now (string_bytes k.read) c.args.text.now k.attributes.items c.utf8.text k.attributes_kept)

pub returns-then-is_empty-clause-kept : goal.returns-then-is_empty-clause-kept
returns-then-is_empty-clause-kept c = nothing_kept c.args.self.now

pub returns-clause-text : goal.returns-clause-text
returns-clause-text c =
    let k = c.args.self.now in
    let b = c.in_ok-push_str.ensures.bytes in
    let h = c.in_ok-span.ensures.span in
    rw b (read_shown k.source.now (string_bytes k.read) c.args.text.now c.in_ok-span.span (h.0 ∙ c.end-start.ensures)
    (h.1 ∙ c.end.ensures ∙ ap (λ l. length (k.source.now ++ l)) b))

pub returns-clause-kept : goal.returns-clause-kept
returns-clause-kept c =
    let k = c.args.self.now in
    let b = c.in_ok-push_str.ensures.bytes in
    let h = c.in_ok-span.ensures.span in
    rw b (read_kept k.source.now (string_bytes k.read) c.args.text.now c.in_ok-span.span c.utf8.text (h.0 ∙ c.end-start.ensures)
    (h.1 ∙ c.end.ensures ∙ ap (λ l. length (k.source.now ++ l)) b))

pub returns-clause-adds : goal.returns-clause-adds
returns-clause-adds c =
    let k = c.args.self.now in
    kept_adds k _ c.args.text.now [] refl refl c.in_ok-push_str.ensures.bytes (sym (append-nil k.attributes.items))
