use Rattle.publish_core.proofs.{Ordered.read_in_order, Whole.are_served}
use Rattle.publish_core.proofs.laws.publications_are_served.Goals as goal

pub returns : goal.returns
returns c = are_served (read_in_order c.what_is_read_is_bounded.ensures) c.what_is_read_has_addresses.ensures.tracks
    c.read_texts_are_taken.ensures.own c.published_texts_are_taken.ensures
