use Rattle.std.proofs.Common.{map, ap, ◌∙◌}
use Rattle.hls_presentation.specs.Views.{source_of}
use Rattle.hls_follow.proofs.Bounded.{bounded_kept}
use Rattle.hls_follow.proofs.round.place_sources.Goals as goal

pub judge_tracks-requires-clause-bounded : goal.judge_tracks-requires-clause-bounded
judge_tracks-requires-clause-bounded c =
    rw (ap (map source_of) c.deref.ensures.value ∙ c.in_ok-kept.ensures)
    (bounded_kept c.as_slice.result.now (map source_of c.args.sources.now) c.requires.bounded)

pub place-requires-clause-bounded : goal.place-requires-clause-bounded
place-requires-clause-bounded c =
    rw (ap (map source_of) c.deref-2.ensures.value ∙ c.in_ok-kept.ensures)
    (bounded_kept c.as_slice.result.now (map source_of c.args.sources.now) c.requires.bounded)
