use Rattle.std.proofs.Common.{◌∙◌, append_assoc}
use Rattle.bridge_compare.specs.Check.{same_text}
use Rattle.bridge_compare.proofs.check.same_text.Goals as goal

pub returns : goal.returns
unfolding same_text
returns c = c.from.ensures ∙ simp append_assoc (c.in_ok-format.ensures.ok)
