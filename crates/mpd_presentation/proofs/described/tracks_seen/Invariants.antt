use Rattle.mpd_presentation.proofs.described.tracks_seen.Given as goal
use Rattle.std.proofs.Common.{◌≡◌, ◌++◌, map, drop}
use Rattle.mpd_rules.specs.Views.{track_in}
use Rattle.mpd_presentation.specs.Rows.{track_of}

abbrev pub invariant-loop-view : goal.invariant-loop-view
invariant-loop-view g l = l.tracks ++ map (λ view. track_of (track_in view)) (drop l.view-index l.views) ≡ map
    (λ view. track_of (track_in view)) l.views
