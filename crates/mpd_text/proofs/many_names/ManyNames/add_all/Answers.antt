use Rattle.mpd_text.proofs.many_names.ManyNames.add_all.Goals as goal
use Rattle.std.proofs.{Common.{◌≡◌, ◌+◌, ◌<◌, ℕ, List, [], ◌∷◌, ◌++◌, arith, get_or, length, take}, lemmas.List.{map-append, take_more}}
use Rattle.mpd_text.specs.Names.{name_in, names_in}
use Rattle.mpd_tree.specs.declared.tree.AttributeRow.{AttributeRow}

-- the names of one row more
names_more : (bytes : List ℕ) (rows : List AttributeRow) (i : ℕ) (d : AttributeRow) (last : List ℕ) → i < length rows
    → last ≡ name_in bytes (get_or rows i d) → names_in bytes (take (i + 1) rows) ≡ names_in bytes (take i rows) ++ last ∷ []
names_more bytes rows i d last less e =
    grind (arith, e, take_more rows i d less, map-append (name_in bytes) (take i rows) (get_or rows i d ∷ []))

pub loop-row-preserved : goal.loop-row-preserved
loop-row-preserved c = λ empty name.
    rw (names_more c.args.bytes.now c.args.rows.now c.loop-row.row-index _ c.name_of.result.now c.loop-row-test.true c.name_of.ensures)
    ((c.in_ok-add.ensures.name _ (c.loop-row.invariant empty)).1 name)
