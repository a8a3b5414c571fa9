use Rattle.publish_core.proofs.{FirstAgain.first_unchanged, Ordered.read_in_order}
use Rattle.publish_core.proofs.laws.a_first_publication_again_is_unchanged.Goals as goal

pub returns : goal.returns
returns c = first_unchanged (read_in_order c.what_is_read_is_bounded.ensures) c.what_is_read_has_addresses.ensures.tracks
    c.first_folders_are_read.ensures
