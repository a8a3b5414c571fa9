use Rattle.bridge_ends.proofs.shelf.unset.Goals as goal
use Rattle.std.proofs.lemmas.Map.Text.{btree_map_updates_text}
use Rattle.bridge_io.proofs.Files.{same_files}

pub returns : goal.returns
returns c = same_files (btree_map_updates_text c.args.name.now c.args.files.now c.remove.new.self _ c.remove.ensures.updates)
