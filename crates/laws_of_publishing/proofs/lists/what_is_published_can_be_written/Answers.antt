use Rattle.laws_of_publishing.proofs.Dates.{published_is_writable}
use Rattle.laws_of_publishing.proofs.lists.what_is_published_can_be_written.Goals as goal

pub returns : goal.returns
returns c = published_is_writable
