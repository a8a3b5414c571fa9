use Rattle.std.proofs.Common.{append_assoc}
use Rattle.bridge_steps.specs.Done.{tracks_text}
use Rattle.bridge_steps.proofs.done.push_tracks.Goals as goal

pub returns : goal.returns
unfolding tracks_text
returns c = simp append_assoc (c.write.ensures.bytes)
