use Rattle.std.proofs.Common.{◌∙◌, append_assoc}
use Rattle.publish_core.specs.Reports.{first_line}
use Rattle.publish_core.proofs.report.first_line.Goals as goal

pub returns : goal.returns
unfolding first_line
returns c = c.from.ensures ∙ simp append_assoc (c.in_ok-format.ensures.ok)
