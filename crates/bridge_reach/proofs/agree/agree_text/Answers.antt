use Rattle.std.proofs.Common.{◌∙◌, append_assoc}
use Rattle.bridge_reach.specs.Agree.{agree_text}
use Rattle.bridge_reach.proofs.agree.agree_text.Goals as goal

pub returns : goal.returns
unfolding agree_text
returns c = c.from.ensures ∙ simp append_assoc (c.in_ok-format.ensures.ok)
