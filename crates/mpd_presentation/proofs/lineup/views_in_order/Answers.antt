use Rattle.mpd_presentation.proofs.lineup.views_in_order.Goals as goal
use Rattle.std.proofs.Common.{map, ap}
use Rattle.mpd_rules.specs.Views.{track_in}
use Rattle.mpd_presentation.proofs.Ordered.{three_kinds}

pub returns : goal.returns
returns g c =
    three_kinds (map track_in c.new-views.result.items) (map track_in c.add_kind.new.views.items)
    (map track_in c.add_kind-2.new.views.items) (map track_in c.add_kind-3.new.views.items) _ _ _
    (ap (map track_in) c.new-views.ensures.items)
    (rw c.tracks.ensures at c.in_ok-add_kind.ensures) (rw c.tracks-2.ensures at c.in_ok-add_kind-2.ensures)
    (rw c.tracks-3.ensures at c.in_ok-add_kind-3.ensures)
