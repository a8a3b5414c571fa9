use Rattle.mpd_tree.proofs.element_table.ElementTable.set.Goals as goal
use Rattle.std.proofs.{Common.{◌≡◌, ◌+◌, refl, arith}, lemmas.List.Elements.All-set, lemmas.List.length-set}
use Rattle.mpd_tree.specs.Packed.{IsPacked}
use Rattle.mpd_tree.proofs.PackedLemmas.{rows_set, still_packed, wide_stays}

pub invariant_of-self-2 : goal.invariant_of-self-2
invariant_of-self-2 c =
    let was = c.in_ok-packed.ensures.ok in
    record {
      counted = rw length-set c.self.invariant.counted;
      all = All-set (IsPacked _) _ c.args.index _ was.is_packed (still_packed _ _ _ _ _ _ c.self.invariant was);
    }

pub returns-clause-ok : goal.returns-clause-ok
returns-clause-ok c =
    let was = c.in_ok-packed.ensures.ok in
    let next : 1 + c.args.index ≡ c.args.index + 1 = omega arith in
    rw (rows_set, next, was.row_is, wide_stays _ _ _ _ _ _ c.self.invariant was, c.self.view_is) refl
