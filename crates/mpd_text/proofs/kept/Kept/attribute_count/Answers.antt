use Rattle.mpd_text.proofs.kept.Kept.attribute_count.Goals as goal
use Rattle.std.proofs.Common.{sym, ◌∙◌}
use Rattle.mpd_text.specs.Keeping.{attributes_in, kept_of}
use Rattle.mpd_text.proofs.KeptRows.{lengths}

pub returns : goal.returns
unfolding attributes_in
returns c = let k = c.args.self.now in c.len.ensures ∙ k.attributes.ok.0 ∙ sym (lengths k.source.now (kept_of k) k.attributes.items)
