use Rattle.std.proofs.Common.{not, ◌∙◌, ap}
use Rattle.bridge_io.proofs.NameSets.{has_name}
use Rattle.hls_master.proofs.TextSets.{one_more}
use Rattle.hls_master.proofs.texts.Texts.add.Goals as goal

pub returns-clause-fresh : goal.returns-clause-fresh
returns-clause-fresh c = rw (← c.self.view_is) (c.in_ok-insert.ensures.added ∙ ap not (has_name c.self.inside.texts.keys c.args.text.now))

pub returns-clause-added : goal.returns-clause-added
returns-clause-added c = rw (← c.self.view_is) (one_more c.self.inside.texts c.insert.new.self c.args.text c.in_ok-insert.ensures.updates)
