use Rattle.std.proofs.Common.{◌∙◌}
use Rattle.bridge_io.proofs.NameSets.{has_name}
use Rattle.mpd_profile.proofs.siblings.Siblings.has_id.Goals as goal

pub returns : goal.returns
returns c = λ dynamic before behind.
    c.contains.ensures ∙ has_name c.args.self.now.ids.keys c.as_bytes.result.now ∙ rw c.as_bytes.ensures.value (behind.ids c.args.id.now)
