use Rattle.mpd_text.proofs.kept.Kept.end_element.Goals as goal
use Rattle.std.proofs.{Common.{◌≡◌, ◌<◌, subst, length, map, vec_len, refl, ap, ◌∙◌, arith}, lemmas.List.length-map}
use Rattle.std.proofs.lemmas.List.Elements.{All-set}
use Rattle.std.specs.List.{All}
use Rattle.mpd_text.specs.Keeping.{kept_of, shown_in}
use Rattle.mpd_tree.specs.{Forests.shown_of, Rows.{HasAttributesWithin, IsElementKept}, declared.tree.ElementRow.ElementRow}
use Rattle.mpd_text.proofs.KeptRows.{changed, set_shown, size}
use Rattle.mpd_tree.proofs.NodeLemmas.{all_at}

pub invariant_of-self-clause-elements_kept : goal.invariant_of-self-clause-elements_kept
invariant_of-self-clause-elements_kept c =
    let k = c.args.self.now in
    let P = IsElementKept k.source.now (kept_of k) in
    let had = all_at P k.elements c.args.row c.get-element.result k.elements_kept c.get-element.ensures in
    changed (All P) c.set.new.self k.elements _ c.set.result c.set.ensures.ok c.set.ensures.stays k.elements_kept
    (All-set P k.elements c.args.row _ (record { name = had.name; text = c.requires.text }) k.elements_kept)

pub invariant_of-self-clause-attributes_within : goal.invariant_of-self-clause-attributes_within
invariant_of-self-clause-attributes_within c =
    let k = c.args.self.now in
    let P = HasAttributesWithin (vec_len k.attributes) in
    let had = all_at P k.elements c.args.row c.get-element.result k.attributes_within c.get-element.ensures in
    changed (All P) c.set.new.self k.elements _ c.set.result c.set.ensures.ok c.set.ensures.stays k.attributes_within
    (All-set P k.elements c.args.row _ (record { ordered = had.ordered; within = had.within }) k.attributes_within)

pub get-element-requires : goal.get-element-requires
get-element-requires c = subst (λ n. c.args.row < n) (size c.args.self.now) c.requires.row

pub set-requires : goal.set-requires
set-requires c = subst (λ n. c.args.row < n) (size c.args.self.now) c.requires.row

pub returns-clause-ended : goal.returns-clause-ended
unfolding shown_in
returns-clause-ended c = λ before inner s is len.
    let k = c.args.self.now in
    let f = shown_of k.source.now (kept_of k) k.attributes.items in
    let row = c.get-element.result in
    let new : ElementRow = record {
      name = row.name;
      text = c.args.text;
      attributes = row.attributes;
      attributes_end = row.attributes_end;
      next = c.in_ok-next.next;
    } in
    let h = set_shown f k.elements c.args.row row new before inner s c.get-element.ensures is len in
    let next : c.in_ok-next.next ≡ length (map f k.elements) = omega (
      arith,
      c.in_ok-next.ensures.ok,
      c.len.ensures.length,
      length-map k.elements f,
    ) in
    ap (map f) c.in_ok-set.ensures.ok ∙ h.0 ∙ rw (← h.1, next) refl
