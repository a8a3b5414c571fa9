use Rattle.mpd_hints.proofs.Boundaries.{behind_front}
use Rattle.mpd_hints.proofs.labels.without_front.Goals as goal

pub range_from-requires : goal.range_from-requires
range_from-requires c = λ above. behind_front c.args.text.now _ c.front_len.ensures above c.utf8.text
