use Rattle.std.proofs.{Common.{◌≡◌, string_bytes, ◌∙◌}, lemmas.Map.Text.btree_map_updates_text, lemmas.Result.IfOk-at_ok}
use Rattle.bridge_io.proofs.Files.{same_files}
use Rattle.page_server.proofs.shelf.Shelf.put.Goals as goal

-- the key has the file's name
pub returns-clause-ok : goal.returns-clause-ok
returns-clause-ok c =
    let key_is_name = IfOk-at_ok (λ s. string_bytes s ≡ c.as_str.result.now) c.in_ok-key.was c.from_str.ensures.ok
    ∙ c.as_str.ensures.text in
    let sets = btree_map_updates_text (string_bytes c.in_ok-key.key) c.args.self.now.texts c.insert.new.self _
    c.in_ok-insert.ensures.updates in
    same_files (rw key_is_name at sets)
