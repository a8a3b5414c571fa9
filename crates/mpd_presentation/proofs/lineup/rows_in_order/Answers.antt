use Rattle.mpd_presentation.proofs.lineup.rows_in_order.Goals as goal
use Rattle.std.proofs.{Common.{◌∙◌, ap, map, sym}, lemmas.Result.IfOk-weaker}
use Rattle.mpd_rules.specs.{Typed.track_with, Views.{period_in, track_in}}
use Rattle.mpd_presentation.specs.Rows.{shown}
use Rattle.presentation.proofs.Grids.{by_kind_made}
use Rattle.mpd_presentation.proofs.Joining.{seen_twice}

pub returns : goal.returns
returns c =
    IfOk-weaker c.views_in_order.result _ _
    (λ views is.
    seen_twice (track_with shown) track_in views.items ∙ ap (map (track_with shown)) is
    ∙ sym (by_kind_made (track_with shown) (λ row. row.description.kind) (period_in c.args.period.now).tracks)) c.views_in_order.ensures
