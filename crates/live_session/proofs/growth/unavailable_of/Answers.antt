use Rattle.std.proofs.Common.{refl}
use Rattle.live_session.proofs.growth.unavailable_of.Goals as goal

pub returns : goal.returns
returns c = rw (c.removed_of.ensures, c.force.ensures, c.three_targets-least.ensures) refl
