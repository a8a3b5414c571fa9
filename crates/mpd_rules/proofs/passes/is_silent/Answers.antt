use Rattle.mpd_rules.proofs.passes.is_silent.Goals as goal
use Rattle.std.proofs.{Common.{rules, tests, not, ap, ◌∙◌}, lemmas.Iterator.YieldsList-from_slice}
use Rattle.std.proofs.lemmas.Iterator.Search.{any_from_yields_List}
use Rattle.mpd_rules.specs.{declared.rows.TrackRow.TrackRow, Rules.is_played}

pub returns : goal.returns
returns g c =
    ap not (any_from_yields_List (λ (track : TrackRow _). is_played track.description.kind) c.any.new.self _ c.any.result c.any.ensures.ran
    (YieldsList-from_slice c.args.period.now.tracks (c.iter.ensures.rest ∙ c.as_slice.ensures))
    (λ x b q k. search (rules, tests)))
