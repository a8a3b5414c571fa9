use Rattle.std.proofs.Common.{sym}
use Rattle.timeline.proofs.names.Names.part.Goals as goal

pub named_part-requires : goal.named_part-requires
named_part-requires c = rw c.as_str.ensures (rw c.in-Template.is at c.requires)

pub returns-in-Template-clause-part : goal.returns-in-Template-clause-part
returns-in-Template-clause-part c = rw (c.in-Template.is, sym c.as_str.ensures) c.named_part.ensures.part

pub returns-in-Template-clause-kept : goal.returns-in-Template-clause-kept
returns-in-Template-clause-kept c = rw (c.in-Template.is, sym c.as_str.ensures) c.named_part.ensures.kept
