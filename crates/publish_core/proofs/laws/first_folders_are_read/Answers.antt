use Rattle.publish_core.proofs.FirstRead.{first_read}
use Rattle.publish_core.proofs.laws.first_folders_are_read.Goals as goal

pub returns : goal.returns
returns c = first_read c.what_is_read_has_addresses.ensures.tracks c.what_is_read_is_bounded.ensures c.read_texts_are_taken.ensures.first
