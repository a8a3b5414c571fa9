use Rattle.std.proofs.Common.{◌∙◌}
use Rattle.publish_law.proofs.Identities.{found}
use Rattle.publish_law.proofs.listed.Listed.has.Goals as goal

pub returns : goal.returns
returns c = c.contains.ensures ∙ found c.args.self.now c.args.item.now c.identity_of.result c.identity_of.ensures
