use Rattle.std.proofs.Common.{append_assoc}
use Rattle.bridge_steps.specs.Listing.{entry_text}
use Rattle.bridge_steps.proofs.listing.push_words.Goals as goal

pub returns : goal.returns
unfolding entry_text
returns c = simp append_assoc (c.write.ensures.bytes)
