use Rattle.mpd_tree.proofs.element_table.ElementTable.get.Goals as goal
use Rattle.std.proofs.Common.{arith}
use Rattle.mpd_tree.proofs.PackedLemmas.{packed_rows, row_at, rows_length}

pub widened-requires : goal.widened-requires
widened-requires c = rw c.index-packed.ensures (c.self.invariant.all c.args.index _ (grind (arith, rows_length))).within

pub index-requires : goal.index-requires
index-requires c = grind (arith, c.self.invariant.all c.args.index c.index-packed.result.now (grind (arith, rows_length)))

pub returns-then-packed-lt-FIRST_WIDE : goal.returns-then-packed-lt-FIRST_WIDE
returns-then-packed-lt-FIRST_WIDE c =
    grind (arith, packed_rows, row_at c.self.inside.wide.items 1 c.self.inside.rows.items c.args.index c.index-packed.result.now)

pub returns-else-packed-lt-FIRST_WIDE : goal.returns-else-packed-lt-FIRST_WIDE
returns-else-packed-lt-FIRST_WIDE c =
    grind (arith, packed_rows, row_at c.self.inside.wide.items 1 c.self.inside.rows.items c.args.index c.index-packed.result.now)
