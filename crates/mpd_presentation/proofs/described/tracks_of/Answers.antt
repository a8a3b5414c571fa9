use Rattle.mpd_presentation.proofs.described.tracks_of.Goals as goal
use Rattle.std.proofs.Common.{◌≡◌, IfOk, subst}
use Rattle.mpd_presentation.specs.Rows.{row_of, track_of}
use Rattle.mpd_presentation.proofs.Joining.{seen_twice}

pub returns : goal.returns
returns c = subst (λ tracks. IfOk c.tracks_seen.result (λ made. made ≡ tracks))
    (seen_twice track_of row_of c.args.rows.now) c.tracks_seen.ensures
