use Rattle.mpd_tree.proofs.element_table.ElementTable.push.Goals as goal
use Rattle.std.proofs.{Common.{◌≡◌, ◌+◌, length, [], ◌∷◌, refl, arith}, lemmas.List.Elements.All-push, lemmas.List.length-append}
use Rattle.mpd_tree.specs.Packed.{IsPacked}
use Rattle.mpd_tree.proofs.PackedLemmas.{rows_pushed, still_packed, wide_stays}

pub invariant_of-self-in_err-push : goal.invariant_of-self-in_err-push
invariant_of-self-in_err-push c = rw c.in_err-push.ensures.items (record {
  counted = c.self.invariant.counted;
  all = still_packed _ _ _ _ _ _ c.self.invariant c.in_ok-packed.ensures.ok;
})

pub invariant_of-self-2 : goal.invariant_of-self-2
invariant_of-self-2 c =
    let was = c.in_ok-packed.ensures.ok in
    let longer = length-append c.self.inside.rows.items (c.in_ok-packed.packed ∷ []) in
    rw c.in_ok-push.ensures.items (record {
      counted = omega (arith, c.in_ok-next.ensures.ok, c.len.ensures, c.self.inside.rows.ok.0, longer);
      all = All-push (IsPacked _) _ _ (still_packed _ _ _ _ _ _ c.self.invariant was) was.is_packed;
    })

pub returns-clause-ok : goal.returns-clause-ok
returns-clause-ok c =
    let rows = c.self.inside.rows in
    let was = c.in_ok-packed.ensures.ok in
    let next : 1 + length rows.items ≡ c.in_ok-next.next = omega (arith, c.in_ok-next.ensures.ok, c.len.ensures, rows.ok.0) in
    rw (c.in_ok-push.ensures.items, rows_pushed, next, was.row_is, wide_stays _ _ _ _ _ _ c.self.invariant was, c.self.view_is) refl
