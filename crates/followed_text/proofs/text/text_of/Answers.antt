use Rattle.followed_text.proofs.text.text_of.Goals as goal
use Rattle.bridge_ends.specs.InMemory.{files_in}
use Rattle.hls_writer.specs.Items.{items_text}
use Rattle.followed_text.proofs.Stored.{content_put}

pub returns-in-Ok-write_items : goal.returns-in-Ok-write_items
returns-in-Ok-write_items c = rw (← content_put c.in-Ok.name (items_text c.args.head.now c.args.items.now) (files_in c.new-store.result)
    (files_in c.write_items.new.store) c.in-Ok-write_items.ensures.ok) c.content_of.ensures
