use Rattle.std.proofs.Common.{◌∙◌, append_assoc}
use Rattle.bridge_reach.specs.Agree.{apart_text}
use Rattle.bridge_reach.proofs.agree.apart_line.Goals as goal

pub returns : goal.returns
unfolding apart_text
returns c = c.from.ensures ∙ simp append_assoc (c.in_ok-format.ensures.ok)
