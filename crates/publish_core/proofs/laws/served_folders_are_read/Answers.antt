use Rattle.publish_core.proofs.Folders.{are_read}
use Rattle.publish_core.proofs.laws.served_folders_are_read.Goals as goal

pub returns : goal.returns
returns c = are_read c.what_is_read_has_addresses.ensures.tracks c.publications_are_served.ensures
