use Rattle.std.proofs.Common.{◌+◌, ◌++◌, ◌∙◌, ap, arith, flat_map, length}
use Rattle.std.specs.String.{string_bytes}
use Rattle.presentation.specs.Counting.{tracks_of}
use Rattle.presentation.proofs.Counts.{from_on}
use Rattle.bridge_steps.specs.Listing.{track_lines}
use Rattle.bridge_steps.proofs.Pushing.{one_more}
use Rattle.bridge_steps.proofs.listing.push_tracks.Goals as goal

pub loop-track-preserved : goal.loop-track-preserved
loop-track-preserved c =
    let p = c.args.presentation.now in
    let text = track_lines c.args.digits p in
    let tracks = length p.tracks in
    ap (λ lines. lines ++ flat_map text (from_on (c.loop-track.track + 1) tracks)) c.in_ok-push_track.ensures
    ∙ one_more text (string_bytes c.args.lines.now ++ flat_map text (tracks_of p)) (string_bytes c.loop-track.lines) c.loop-track.track
    tracks
    (omega (arith, ap length c.tracks.ensures)) c.loop-track.invariant
