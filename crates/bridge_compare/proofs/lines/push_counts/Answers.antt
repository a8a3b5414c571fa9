use Rattle.std.proofs.Common.{append_assoc}
use Rattle.bridge_compare.specs.Lines.{counts_text}
use Rattle.bridge_compare.proofs.lines.push_counts.Goals as goal

pub returns : goal.returns
unfolding counts_text
returns c = simp append_assoc (c.write.ensures.bytes)
