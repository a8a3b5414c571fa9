use Rattle.mpd_profile.proofs.siblings.Siblings.add.Goals as goal
use Rattle.std.proofs.Common.{◌≡◌, ◌∙◌, ap, refl, Some, None}
use Rattle.std.specs.{Prelude.if◌then◌else◌, List.list_any}
use Rattle.bridge_io.proofs.NameSets.{has, insert_has}
use Rattle.mpd_tree.specs.{Trees.Head, Nodes.element_of}
use Rattle.mpd_profile.specs.Refusals.{has_id, period_id}
use Rattle.mpd_profile.proofs.Standing.{no_more_ids, one_more, one_more_id, short_behind}

pub returns-in_ok-insert-clause-added : goal.returns-in_ok-insert-clause-added
returns-in_ok-insert-clause-added c = λ before behind.
    let head : Head = (element_of c.args.node).head in
    let kept : Some c.as_bytes.result.now ≡ (if c.args.dynamic then period_id head else None) =
    rw c.as_bytes.ensures.value (rw c.in-Some.is at c.id_to_keep.ensures) in
    one_more c.args.self.now _ c.args.dynamic before head
    (rw (c.either-self.ensures, c.is_segment_element.ensures, c.name-name.ensures) refl)
    (rw (c.either-self-2.ensures, c.eq.ensures, c.name-name.ensures) refl)
    (rw (c.either-self-3.ensures, c.eq-2.ensures, c.name-name.ensures) refl)
    (λ id. ap (λ keys. has keys id) c.in_ok-insert.ensures.keys ∙ insert_has c.args.self.now.ids.keys c.as_bytes.result id
    ∙ one_more_id c.args.dynamic (period_id head) c.as_bytes.result.now id (list_any (has_id id) before) _ kept (behind.ids id))
    behind

pub returns-in_default-clause-added : goal.returns-in_default-clause-added
returns-in_default-clause-added c = λ before behind.
    let head : Head = (element_of c.args.node).head in
    one_more c.args.self.now _ c.args.dynamic before head
    (rw (c.either-self.ensures, c.is_segment_element.ensures, c.name-name.ensures) refl)
    (rw (c.either-self-2.ensures, c.eq.ensures, c.name-name.ensures) refl)
    (rw (c.either-self-3.ensures, c.eq-2.ensures, c.name-name.ensures) refl)
    (λ id. no_more_ids c.args.dynamic (period_id head) id (list_any (has_id id) before) _ (rw c.in_default.is at c.id_to_keep.ensures)
    (behind.ids id))
    behind

pub returns-then-is_short-clause-added : goal.returns-then-is_short-clause-added
returns-then-is_short-clause-added c = λ before behind.
    short_behind c.args.self.now c.args.dynamic before (element_of c.args.node).head
    (rw (c.is_short.ensures, c.name-name.ensures) at c.if-is_short.true) behind
