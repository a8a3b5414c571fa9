use Rattle.bridge_ends.proofs.mem_store.extend.Goals as goal
use Rattle.std.proofs.{Common.rules, lemmas.Map.Text.btree_map_updates_text}
use Rattle.bridge_io.proofs.Files.{same_files, extends_known, same_known}

pub returns-in-Some-clause-ok : goal.returns-in-Some-clause-ok
returns-in-Some-clause-ok c =
    let sets = btree_map_updates_text c.args.name.now c.args.files.now (c.get_mut.follows.lender c.extend.new.self) _
    ((c.get_mut.follows.holds c.extend.new.self).3 (search rules)) in
    extends_known _ _ _ _ c.in-Some.bytes.now c.args.piece.now c.extend.new.self c.in-Some.ensures.value
    (same_files sets) c.extend.ensures.ok

pub returns-in-Some-clause-err : goal.returns-in-Some-clause-err
returns-in-Some-clause-err c =
    let sets = btree_map_updates_text c.args.name.now c.args.files.now (c.get_mut.follows.lender c.extend.new.self) _
    ((c.get_mut.follows.holds c.extend.new.self).3 (search rules)) in
    same_known _ _ _ _ c.in-Some.bytes.now c.extend.new.self c.in-Some.ensures.value (same_files sets) c.extend.ensures.err
