use Rattle.std.proofs.Common.{◌∙◌}
use Rattle.publish_law.proofs.Identities.{behind}
use Rattle.publish_law.proofs.joint.unlisted_count.Goals as goal

pub returns : goal.returns
returns c = c.count_behind.ensures ∙ behind c.in_ok-listed.listed c.args.served.now c.args.new.now c.in_ok-listed.ensures
