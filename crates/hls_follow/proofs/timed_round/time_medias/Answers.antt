use Rattle.std.proofs.Common.{map, ap, ◌∙◌}
use Rattle.hls_presentation.specs.Views.{source_of}
use Rattle.hls_follow.proofs.Bounded.{bounded_sources}
use Rattle.hls_follow.proofs.timed_round.time_medias.Goals as goal

pub time_sources-requires-clause-bounded : goal.time_sources-requires-clause-bounded
time_sources-requires-clause-bounded g c =
    rw (ap (map source_of) c.deref.ensures.value ∙ c.in_ok-sources.ensures)
    (bounded_sources c.args.tracks.now c.args.medias.now c.requires.bounded)
