use Rattle.mpd_presentation.proofs.described.tracks_in.Goals as goal
use Rattle.std.proofs.Common.{◌≡◌, ◌∙◌, IfOk, ap, map, subst}
use Rattle.mpd_rules.specs.Views.{track_in}
use Rattle.mpd_presentation.specs.Rows.{track_of}
use Rattle.mpd_presentation.proofs.Joining.{seen_twice}

pub returns : goal.returns
returns g c =
    let rows = ap (map track_in) c.deref.ensures.value ∙ c.in_ok-views.ensures in
    subst (λ tracks. IfOk c.tracks_seen.result (λ made. made ≡ tracks)) (seen_twice track_of track_in c.deref.result.now
    ∙ ap (map track_of) rows) c.tracks_seen.ensures
