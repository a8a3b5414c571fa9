use Rattle.std.proofs.Common.{map, ap, ◌∙◌}
use Rattle.hls_presentation.specs.Views.{source_of}
use Rattle.hls_follow.proofs.Bounded.{bounded_sources}
use Rattle.hls_follow.proofs.round.place_round.Goals as goal

pub place_sources-requires-clause-bounded : goal.place_sources-requires-clause-bounded
place_sources-requires-clause-bounded c =
    rw (ap (map source_of) c.deref.ensures.value ∙ c.in_ok-sources.ensures)
    (bounded_sources c.args.tracks.now c.args.medias.now c.requires.bounded)
