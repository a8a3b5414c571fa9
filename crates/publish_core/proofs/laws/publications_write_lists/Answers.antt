use Rattle.publish_core.proofs.{Going.write_lists, Ordered.read_in_order}
use Rattle.publish_core.proofs.laws.publications_write_lists.Goals as goal

pub returns : goal.returns
returns c = write_lists (read_in_order c.what_is_read_is_bounded.ensures)
