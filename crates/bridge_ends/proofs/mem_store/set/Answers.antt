use Rattle.bridge_ends.proofs.mem_store.set.Goals as goal
use Rattle.std.proofs.{Common.{◌≡◌, string_bytes}, lemmas.Map.Text.btree_map_updates_text, lemmas.Result.IfOk-at_ok}
use Rattle.bridge_io.proofs.Files.{same_files}

-- the key has the name's bytes
pub returns-clause-ok : goal.returns-clause-ok
returns-clause-ok c =
    let key_is_name = IfOk-at_ok (λ s. string_bytes s ≡ c.args.name.now) c.in_ok-key.was c.from_str.ensures.ok in
    let sets = btree_map_updates_text (string_bytes c.in_ok-key.key) c.args.files.now c.insert.new.self _ c.in_ok-insert.ensures.updates in
    same_files (rw key_is_name at sets)
