use Rattle.audio_groups.proofs.laws.groups_are_pure.Goals as goal
use Rattle.audio_groups.proofs.Pure.{groups_are_pure}

pub returns : goal.returns
returns c = groups_are_pure
