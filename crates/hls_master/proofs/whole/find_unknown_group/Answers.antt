use Rattle.std.proofs.Common.{◌∙◌, map}
use Rattle.hls_master.specs.SeenTags.{variant_seen}
use Rattle.hls_master.proofs.Loops.{first_place-same, names_unknown-same}
use Rattle.hls_master.proofs.whole.find_unknown_group.Goals as goal

pub returns : goal.returns
returns c = c.first_unknown.ensures ∙ first_place-same _ _ (names_unknown-same _ _ _ _ c.in_ok-audio.ensures c.in_ok-text.ensures)
    (map variant_seen c.args.variants.now)
