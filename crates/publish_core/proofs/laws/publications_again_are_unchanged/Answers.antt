use Rattle.publish_core.proofs.Unchanged.{are_unchanged}
use Rattle.publish_core.proofs.laws.publications_again_are_unchanged.Goals as goal

pub returns : goal.returns
returns c = are_unchanged c.what_is_read_has_addresses.ensures.tracks c.served_folders_are_read.ensures
    c.a_publication_again_changes_nothing.ensures
