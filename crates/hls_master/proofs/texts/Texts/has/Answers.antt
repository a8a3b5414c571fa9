use Rattle.std.proofs.Common.{◌∙◌}
use Rattle.bridge_io.proofs.NameSets.{has_name}
use Rattle.hls_master.proofs.texts.Texts.has.Goals as goal

pub returns : goal.returns
returns c = rw (← c.self.view_is) (c.contains.ensures ∙ has_name c.self.inside.texts.keys c.args.text.now)
